pub mod Each
pub mod Threaded
pub mod Counted
pub mod Covered
pub mod Pushed
pub mod Reading
pub mod Served
