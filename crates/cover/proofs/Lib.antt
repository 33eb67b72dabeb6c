-- The laws of walks, tables and distances. GoodLaws says what an accepted graph gives; One that at most one value fits; ReachRounds, DistanceRounds and ClosedRounds
-- that the rounds settle at the tables; LowTables that no entry is large on the way; CoverLaws, RowSteps and GoesLaws what the engines use; WorkedTables document 01's
-- cases. The others lead there. Assumes nothing.
pub mod GoodLaws
pub mod ContentLaws
pub mod One
pub mod TableLaws
pub mod ReachRounds
pub mod DistanceRounds
pub mod Low
pub mod LowTables
pub mod RowLaws
pub mod WalkLaws
pub mod CoverLaws
pub mod ClosedRounds
pub mod TablesThere
pub mod GoesLaws
pub mod RowSteps
pub mod WorkedGood
pub mod WorkedTables
