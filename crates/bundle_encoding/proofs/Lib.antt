-- Writing: what the writes of a bundle leave. Checked: what is written by what the check has drawn.
pub mod Writing
pub mod Checked
