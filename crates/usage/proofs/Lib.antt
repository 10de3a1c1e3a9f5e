pub mod Accounting
pub mod Totalled
