-- Scopes as lists of positions, and the arrays that hold a scope.
pub mod Scopes
pub mod Stacks
