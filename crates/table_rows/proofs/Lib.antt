-- The laws that the proofs of the rows' code cite.
pub mod Laning
pub mod Linking
