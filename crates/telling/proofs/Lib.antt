-- The laws of what the cases write with.
pub mod Counting
