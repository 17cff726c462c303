-- Along: what the questions ask of the notes and of a path. Meant: what a number that is asked for stands for.
pub mod Along
pub mod Meant
