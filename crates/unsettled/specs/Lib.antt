pub mod Walkable
pub mod Lowest
