pub mod Noting
pub mod NotesKept
pub mod Order
