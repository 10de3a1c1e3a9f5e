pub mod Account
pub mod ByRows
pub mod ByPlace
pub mod Marks
pub mod Totals
pub mod Told
pub mod Worked
