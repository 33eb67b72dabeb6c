-- The definitions that the contracts of the rows' code cite.
pub mod Lists
pub mod Lanes
pub mod HeldEdges
