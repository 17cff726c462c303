pub mod Leaves
pub mod Lowest
pub mod Walking
