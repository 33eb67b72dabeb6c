-- The laws that the proofs of the rounds' code cite.
pub mod Relaxing
pub mod Sweeping
pub mod Following
