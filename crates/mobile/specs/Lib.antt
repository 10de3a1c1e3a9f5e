pub mod Mobile
pub mod Pass
pub mod Told
