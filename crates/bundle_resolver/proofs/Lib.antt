-- Over: a lookup in equal tables.
pub mod Over
