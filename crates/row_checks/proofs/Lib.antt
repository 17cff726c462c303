pub mod Rest
pub mod Kept
pub mod Going
