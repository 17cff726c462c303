pub mod Decided
pub mod Filling
