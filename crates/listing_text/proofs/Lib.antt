-- The laws of the lines of anchors: what is laid for each, and how many bytes it takes.
pub mod Each
pub mod Rooms
