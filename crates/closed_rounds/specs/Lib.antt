-- The definitions of the closed walks by the rounds.
pub mod Closing
