pub mod Promises
pub mod Calls
pub mod Worked
pub mod Corrected
pub mod Shelf
