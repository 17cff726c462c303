-- Pass: all elements. Start: the buffers at the first element. Count: how many rows there can be.
pub mod Pass
pub mod Start
pub mod Count
