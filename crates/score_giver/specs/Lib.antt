-- The definitions of the anchor that gives a score.
pub mod Giver
