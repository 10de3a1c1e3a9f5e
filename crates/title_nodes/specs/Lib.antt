pub mod Passes
pub mod Told
