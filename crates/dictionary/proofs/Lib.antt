pub mod Places
pub mod Clearing
pub mod Laws
