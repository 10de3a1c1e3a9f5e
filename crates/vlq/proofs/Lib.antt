pub mod Numbers
pub mod Least
pub mod Sized
pub mod Back
