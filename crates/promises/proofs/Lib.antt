pub mod Kept
pub mod Sums
pub mod Editions
pub mod Mending
pub mod Shelf
