-- The laws of a result's listing.
pub mod Same
