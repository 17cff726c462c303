pub mod Numbers
pub mod Noted
