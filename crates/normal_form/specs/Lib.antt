pub mod Result
pub mod Lent
