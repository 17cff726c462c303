pub mod Cases
pub mod Unchanged
pub mod Passes
pub mod Result
pub mod Listed
pub mod Again
pub mod Moved
