pub mod Fitting
pub mod Passes
