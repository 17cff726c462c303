pub mod Tests
pub mod Good
