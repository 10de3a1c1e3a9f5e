pub mod Tables
pub mod Metadata
pub mod Told
