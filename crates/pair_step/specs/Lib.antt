-- The definitions of the step between two anchors, on the lists that hold the anchors and the row of a vertex.
pub mod Pairs
