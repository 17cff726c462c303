pub mod NameRefusals
