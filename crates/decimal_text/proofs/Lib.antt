-- The laws of digits, and of what is laid one after the other.
pub mod Digits
pub mod Each
pub mod Ending
