pub mod Questioned
