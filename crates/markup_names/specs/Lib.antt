pub mod Pooled
