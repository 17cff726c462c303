pub mod PoolTables
pub mod Entering
pub mod Entered
pub mod Finding
