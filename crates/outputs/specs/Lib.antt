pub mod Printed
pub mod Mended
