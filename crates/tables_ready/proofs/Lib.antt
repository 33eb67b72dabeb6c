-- The laws of a graph that is ready for an engine.
pub mod GraphLies
