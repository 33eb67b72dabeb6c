-- The definitions of the chain that is returned.
pub mod Returning
