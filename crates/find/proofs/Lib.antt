pub mod Matching
pub mod Looking
pub mod Climbing
pub mod Depends
pub mod Listed
pub mod Path
