-- Opening: what the tests of a bundle's beginning tell, and what opening it gives.
pub mod Opening
