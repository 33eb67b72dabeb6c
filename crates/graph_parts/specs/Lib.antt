-- The definitions that the parts of the check go by, beside those of the graph file.
pub mod Answers
