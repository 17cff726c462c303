pub mod Parents
pub mod Earlier
