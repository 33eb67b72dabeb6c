-- The laws of what both engines share: RowTurns and RowLaws of the row of a vertex, EachLaws and EndsHeld of where
-- the anchors end; StepSays, SettingLaws and HeldLaws that steps and scores over a setting are those of the graph and the anchors that it holds.
pub mod RowTurns
pub mod RowLaws
pub mod EachLaws
pub mod StepSays
pub mod SettingLaws
pub mod EndsHeld
pub mod HeldLaws
