-- The definitions that the rules' clauses cite.
pub mod Reading
