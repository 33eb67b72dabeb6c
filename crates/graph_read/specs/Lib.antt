-- The definitions of the reader of a graph file: what it answers, and what its fills take from an accepted file.
pub mod Answer
