pub mod Reading
pub mod Types
pub mod Ends
pub mod Ways
pub mod Uses
pub mod Stays
