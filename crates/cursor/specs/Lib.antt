pub mod Rows
pub mod Refusals
pub mod Leaves
pub mod Told
