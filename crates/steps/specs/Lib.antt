-- The definitions of what both engines share, on the lists that hold the tables and the anchors.
pub mod Setting
pub mod Rowing
pub mod Filling
pub mod Scores
