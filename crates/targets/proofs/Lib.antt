pub mod Taken
pub mod Targets
