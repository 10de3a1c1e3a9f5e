pub mod Fields
pub mod Mend
pub mod Told
pub mod Worked
