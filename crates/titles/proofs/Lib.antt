pub mod Retitling
