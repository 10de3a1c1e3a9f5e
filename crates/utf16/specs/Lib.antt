pub mod Unicode
pub mod Told
