pub mod Lines
pub mod Asked
pub mod Depends
pub mod Listed
pub mod Filling
pub mod Least
