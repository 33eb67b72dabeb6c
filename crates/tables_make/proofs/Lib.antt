-- The laws of making the tables: what the rounds' code leaves is what the tables mean.
pub mod Same
pub mod Meaning
pub mod Holding
