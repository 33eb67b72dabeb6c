-- The laws of what a reader gave.
pub mod Reading
