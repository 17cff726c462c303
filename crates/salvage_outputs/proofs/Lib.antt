pub mod Fates
pub mod Outcome
