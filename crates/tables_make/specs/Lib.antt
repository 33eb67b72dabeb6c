-- The definitions that the contract of making the tables cites.
pub mod Made
