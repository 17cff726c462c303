-- What a lookup has when it has begun.
pub mod Ground
