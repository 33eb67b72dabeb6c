-- The definitions of a result's listing.
pub mod Showing
