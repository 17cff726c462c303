pub mod Opened
pub mod Numbering
