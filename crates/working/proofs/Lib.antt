-- Held: what good buffers hold. Changed: the numbers after a write. Steps: good buffers after a move or a write. Declaring: a new
-- declaration on the path. Own: an element's own declaration.
pub mod Held
pub mod Changed
pub mod Steps
pub mod Declaring
pub mod Own
