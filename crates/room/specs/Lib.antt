pub mod Parts
pub mod Counts
pub mod Room
pub mod Decimal
