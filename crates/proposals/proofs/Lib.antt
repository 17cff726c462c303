pub mod Cases
pub mod Scans
pub mod Held
pub mod OwnResult
pub mod Acceptance
