-- The laws. Callers cite Table (the theorem), Fits (the three kinds), Relax (`optimal`), Counts, InPlace, Gather and Turns (what loops need), Upto; the others
-- lead there. Assumes nothing.
pub mod Upto
pub mod Counts
pub mod InPlace
pub mod Choice
pub mod Nearing
pub mod Target
pub mod Gather
pub mod Relax
pub mod Table
pub mod Fits
pub mod Turns
pub mod Examples
