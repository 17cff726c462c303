-- The URI that a row decides.
pub mod Deciding
