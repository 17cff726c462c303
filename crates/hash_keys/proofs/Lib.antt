pub mod Stirring
