-- The definitions that the parts of the check go by: where the labels stand, and one anchor as it is read.
pub mod LabelTables
pub mod ReadAnchor
