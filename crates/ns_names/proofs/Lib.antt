-- Reading: the number read from a name is the number of its NS prefix. Entering: the names of a dictionary, one after the other.
pub mod Reading
pub mod Entering
