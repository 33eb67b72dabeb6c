-- The laws that the proofs of the tables' code cite.
pub mod Tabling
pub mod Accepted
