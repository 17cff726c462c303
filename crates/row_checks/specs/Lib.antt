pub mod Arrays
pub mod Pass
pub mod Judging
