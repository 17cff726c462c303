pub mod Start
pub mod Outcome
