-- The laws of a round: BestLaws the greatest of a score and all candidates, RoundLow how high its scores come, RoundTurns its loop.
pub mod BestLaws
pub mod RoundLow
pub mod RoundTurns
