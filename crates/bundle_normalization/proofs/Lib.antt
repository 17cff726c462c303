-- Room: the working table and the working pool have room for the result.
pub mod Room
