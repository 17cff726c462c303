pub mod Bundled
pub mod Leaving
