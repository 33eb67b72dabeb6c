-- The laws of the plain pass.
pub mod PlainLaws
