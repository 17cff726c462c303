-- Numbered: the bytes of an NS prefix, digit by digit.
pub mod Numbered
