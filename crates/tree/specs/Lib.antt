pub mod Tree
pub mod Told
