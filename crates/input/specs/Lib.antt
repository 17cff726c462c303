pub mod Input
pub mod Lent
