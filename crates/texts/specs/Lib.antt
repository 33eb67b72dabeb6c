-- The definitions of texts of several parts, and of texts with places for numbers.
pub mod Filled
pub mod Parts
