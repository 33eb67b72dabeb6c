-- The laws that the proofs of the starts' code cite.
pub mod Starts
