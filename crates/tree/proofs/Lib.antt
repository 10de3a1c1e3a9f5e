pub mod Ends
pub mod Nodes
pub mod Starts
