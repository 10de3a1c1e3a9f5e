pub mod Written
pub mod Mended
