-- The law of the numbers that the fill takes.
pub mod Taking
