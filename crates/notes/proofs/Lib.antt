pub mod Safe
pub mod Changes
