pub mod Chain
pub mod Accepted
pub mod Exits
pub mod Copied
pub mod Listed
