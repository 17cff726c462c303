pub mod Values
pub mod Asking
