-- Lent: the arrays that packing is lent.
pub mod Lent
