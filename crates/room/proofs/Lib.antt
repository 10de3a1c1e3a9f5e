pub mod Sets
pub mod Storing
pub mod Lies
pub mod Counting
pub mod Decimal
