pub mod Cases
pub mod Entries
pub mod Growing
pub mod Packed
pub mod Passes
pub mod Normal
pub mod Lookups
