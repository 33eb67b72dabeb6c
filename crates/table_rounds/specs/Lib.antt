-- The definitions that the contracts of the rounds' code cite.
pub mod Held
