-- The definition of the sweep.
pub mod Sweeping
