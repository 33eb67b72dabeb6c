-- What the chaining entries promise, and what they have on their way.
pub mod Answer
pub mod Begun
