-- The laws of looking back.
pub mod LookLaws
