-- The laws of changes.
pub mod ChangeLaws
