-- The laws that the proofs of the reader cite.
pub mod Replying
pub mod Outcome
