-- Copied: what a read answers and leaves.
pub mod Copied
