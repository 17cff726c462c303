pub mod Start
pub mod Flags
pub mod Scans
