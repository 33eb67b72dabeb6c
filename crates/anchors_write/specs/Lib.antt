-- The definitions of the anchor writer, beside those of the anchor file.
pub mod Answer
