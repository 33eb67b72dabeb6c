-- A view as the code holds it.
pub mod Viewed
