pub mod Resolve
pub mod Told
