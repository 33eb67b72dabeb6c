-- The definitions that the contracts of the starts' code cite.
pub mod Starting
