-- The definitions that the contracts of the lanes' code cite.
pub mod Follows
