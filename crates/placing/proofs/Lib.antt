-- The laws that the chaining entries' proofs cite, and that their promise admits one answer.
pub mod Reading
pub mod Answering
