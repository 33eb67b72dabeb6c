-- The definitions of the graph writer, beside those of the graph file and of the content that it is given.
pub mod Answer
