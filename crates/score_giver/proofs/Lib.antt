-- The laws of the anchor that gives a score.
pub mod GiverLaws
