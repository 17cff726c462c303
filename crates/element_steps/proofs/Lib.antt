-- Fit: what holds of every state. Walk: one element and its attributes.
pub mod Fit
pub mod Walk
