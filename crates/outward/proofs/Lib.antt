-- Left: what is left of a path gives the answer. Every: what holds of every answer. Shadowed: a shadowed prefix is never answered.
pub mod Left
pub mod Every
pub mod Shadowed
