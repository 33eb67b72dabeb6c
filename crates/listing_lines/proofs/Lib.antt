-- The law of how many bytes a line takes.
pub mod Rooms
