-- The definitions of the listing.
pub mod Printing
