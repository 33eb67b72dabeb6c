-- The laws of texts of several parts, and of texts with places for numbers.
pub mod Filling
pub mod Parting
