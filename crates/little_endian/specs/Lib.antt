-- Numbers as bytes, little-endian.
pub mod Numbers
