pub mod Linking
pub mod Walking
