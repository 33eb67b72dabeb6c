-- The definitions of a graph that is ready for an engine.
pub mod Ready
