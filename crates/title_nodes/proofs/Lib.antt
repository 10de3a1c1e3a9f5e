pub mod Lengths
pub mod Nodes
pub mod Rows
pub mod Runs
pub mod Passes
