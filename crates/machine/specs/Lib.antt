pub mod Machine
pub mod Example
