-- The laws of the encoding's bytes.
pub mod Sizing
