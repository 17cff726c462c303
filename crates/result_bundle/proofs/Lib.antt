-- Results: what a normalization's buffers hold, and what is written from them.
pub mod Results
