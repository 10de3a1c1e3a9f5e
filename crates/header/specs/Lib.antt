pub mod Types
pub mod Header
pub mod Told
