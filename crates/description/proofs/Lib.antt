pub mod Tests
pub mod Ways
pub mod Exits
pub mod Depends
pub mod Listed
pub mod Stays
