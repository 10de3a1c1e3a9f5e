pub mod Reading
pub mod Steps
pub mod Asking
pub mod Own
pub mod Hidden
pub mod Told
