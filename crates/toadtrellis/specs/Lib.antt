-- The definitions of the delivered entries.
pub mod Promises
