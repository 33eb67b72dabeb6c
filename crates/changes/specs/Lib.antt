-- The definitions of changes that a text writes.
pub mod Changes
