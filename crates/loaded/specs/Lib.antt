-- The definitions of a loaded file.
pub mod Files
