-- The definitions of looking back.
pub mod Looking
