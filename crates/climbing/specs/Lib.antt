-- Steps: a step of the climb, and what it writes to a path.
pub mod Steps
