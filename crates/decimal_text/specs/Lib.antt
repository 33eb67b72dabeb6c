-- The definitions of numbers in base ten, and of words with numbers after them.
pub mod Decimal
pub mod Words
