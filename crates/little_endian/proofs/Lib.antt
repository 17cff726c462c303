-- Numbers: reading undoes writing, and writing undoes reading. Reading: words read one after the other. Writing: words written one
-- after the other.
pub mod Numbers
pub mod Reading
pub mod Writing
