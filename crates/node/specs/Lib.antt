pub mod Node
pub mod Told
