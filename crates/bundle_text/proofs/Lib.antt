-- Over: the text of equal tables.
pub mod Over
