-- Stretch: a stretch of the pool that repeats itself.
pub mod Stretch
