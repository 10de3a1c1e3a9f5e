pub mod Row
pub mod Description
pub mod Count
pub mod Told
pub mod Worked
