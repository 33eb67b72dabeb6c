-- The laws of a step's numbers: PairLaws of the step.
pub mod PairLaws
