-- The arrays that are lent to a lookup.
pub mod Lent
