pub mod Numbers
pub mod Escapes
pub mod Shown
pub mod Least
pub mod LowBytes
