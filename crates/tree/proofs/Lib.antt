pub mod Allowed
pub mod Earlier
pub mod Parents
