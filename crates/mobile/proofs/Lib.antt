pub mod Tests
pub mod Lists
pub mod Roles
pub mod Counts
pub mod Checks
pub mod Depends
