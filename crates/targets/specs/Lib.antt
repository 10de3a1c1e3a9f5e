pub mod Targets
pub mod Told
