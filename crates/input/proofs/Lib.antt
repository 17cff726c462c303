pub mod Input
pub mod Xml
pub mod Numbered
