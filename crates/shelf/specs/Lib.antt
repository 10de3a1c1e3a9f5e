pub mod Shelf
pub mod Words
pub mod Rows
pub mod Runs
pub mod Told
pub mod Worked
