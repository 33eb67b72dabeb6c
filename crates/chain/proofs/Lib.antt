-- The laws of chains and scores.
pub mod StepLaws
pub mod BestScores
pub mod SweepLaws
pub mod NamedLaws
pub mod StepsThere
pub mod ValidChains
pub mod Results
pub mod Demands
pub mod WorkedSteps
pub mod WorkedChains
