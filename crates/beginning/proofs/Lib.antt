-- Beginning: what a lookup has begun with. Refusals: the refusal of a lookup.
pub mod Refused
pub mod Beginning
