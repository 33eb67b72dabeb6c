-- The laws that the proofs of laying labels cite.
pub mod LabelRuns
