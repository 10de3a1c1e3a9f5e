pub mod Placed
pub mod Origin
