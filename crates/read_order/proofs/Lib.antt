-- The laws of the anchors in read order: Ordering how they are put in order, InOrder what an engine that takes them so has.
pub mod Ordering
pub mod InOrder
