pub mod Secrecy
