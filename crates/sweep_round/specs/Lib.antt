-- The definitions of a round of the sweep.
pub mod Round
