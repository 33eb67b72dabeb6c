-- How many bytes the content that the anchor writer is given takes.
pub mod InPlaces
