-- The laws of the reader's promise.
pub mod Promised
