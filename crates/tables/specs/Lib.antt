-- The definitions that the contracts of the tables' code cite.
pub mod Answer
