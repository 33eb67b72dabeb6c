-- The definitions of what the cases write with: how often a number stands in a list, and what is written of bytes and of numbers.
pub mod Counts
pub mod Said
