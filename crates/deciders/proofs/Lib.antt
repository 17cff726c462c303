-- Decided: the URI that a row decides. Tests: what the code asks of a row.
pub mod Decided
pub mod Tests
