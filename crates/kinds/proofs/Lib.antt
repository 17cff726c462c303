pub mod NameKinds
pub mod PlainNames
pub mod Slashes
