-- The laws of the view: where an anchor's letters stand, and the part of a file that is handed back.
pub mod Viewing
