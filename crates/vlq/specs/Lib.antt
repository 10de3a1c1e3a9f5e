pub mod Vlq
