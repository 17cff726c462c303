pub mod Noted
pub mod Met
