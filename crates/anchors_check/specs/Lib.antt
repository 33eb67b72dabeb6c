-- The definitions that the check of the anchor file goes by, beside those of the anchor file.
pub mod CheckedAnchors
