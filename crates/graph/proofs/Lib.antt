-- The laws of the graph file. Parted says what an accepted file's sections are; Whole, Rereading and Exactly that it is accepted exactly when every rule holds;
-- Faulty what a fault is; RoundTrips and Prefixes the two entries together.
pub mod Starred
pub mod Steps
pub mod Kept
pub mod Accepting
pub mod Parted
pub mod Whole
pub mod Faulty
pub mod Rereading
pub mod RereadWhole
pub mod ContentReading
pub mod Exactly
pub mod Givens
pub mod RoundTrips
pub mod Prefixes
