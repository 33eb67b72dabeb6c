-- The definitions of loading files.
pub mod Files
