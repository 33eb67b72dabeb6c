-- The laws of the first fault.
pub mod Giving
pub mod EachSteps
