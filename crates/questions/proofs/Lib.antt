-- Going: the answer of a lookup that has begun.
pub mod Going
