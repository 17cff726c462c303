-- Inherited: what is inherited, by the first declaration in scope. Names: the two tests, by numbers. Writable: a table of which no row
-- is refused.
pub mod Inherited
pub mod Names
pub mod Writable
