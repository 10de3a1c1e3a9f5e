pub mod Files
pub mod Ready
pub mod Headed
