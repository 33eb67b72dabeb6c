-- The laws of the search, of the marks and of the walk along the paths.
pub mod Marking
pub mod Searching
pub mod Stepping
pub mod Walking
