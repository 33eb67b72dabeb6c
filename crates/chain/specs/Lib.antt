-- The definitions of chains and scores. Each rule of document 01 stands once, and is cited by its sentence.
pub mod Steps
pub mod Chains
pub mod Named
pub mod Sweep
pub mod ChainEntries
pub mod Demands
pub mod WorkedAnchors
