-- The definitions of the lines.
pub mod Lines
