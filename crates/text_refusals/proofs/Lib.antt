-- Outcome: writing, stage by stage. Judging: what a row is refused for.
pub mod Outcome
pub mod Judging
