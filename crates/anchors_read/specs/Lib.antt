-- The definitions of the reader of an anchor file: what it answers.
pub mod Answer
