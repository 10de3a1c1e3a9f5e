pub mod Walk
pub mod Sixteen
pub mod Eight
pub mod Back
pub mod Ways
pub mod Converting
pub mod Tails
pub mod Listed
