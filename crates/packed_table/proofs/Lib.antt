pub mod Patching
pub mod Going
