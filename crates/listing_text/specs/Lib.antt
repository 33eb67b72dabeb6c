-- The definitions of the lines of anchors.
pub mod Lines
