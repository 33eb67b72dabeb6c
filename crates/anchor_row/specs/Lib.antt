-- The definitions of an anchor's row.
pub mod Row
