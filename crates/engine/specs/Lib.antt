-- What lies in a buffer before an engine, and what an engine leaves.
pub mod Lying
pub mod Engine
