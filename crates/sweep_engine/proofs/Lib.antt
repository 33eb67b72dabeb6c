-- The laws of the sweep: SweepHeld that it leaves the best scores, Swept the same whatever is held, SweepTurns how its loop over rounds begins.
pub mod SweepHeld
pub mod SweepTurns
pub mod Swept
