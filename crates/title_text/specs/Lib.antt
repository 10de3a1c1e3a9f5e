pub mod Description
pub mod Text
pub mod Title
pub mod Worked
