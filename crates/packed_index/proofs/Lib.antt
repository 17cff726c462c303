pub mod Following
pub mod Followed
pub mod Finding
pub mod Elsewhere
