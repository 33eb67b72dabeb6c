-- The definitions of what the check answers, beside those of the graph file.
pub mod Checked
