pub mod Opening
pub mod Numbering
pub mod Bundles
