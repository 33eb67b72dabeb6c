-- The definitions of counts and digests.
pub mod Counts
pub mod Digest
pub mod Reading
