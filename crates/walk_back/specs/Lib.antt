-- The definitions that the contract of the way back cites.
pub mod Back
