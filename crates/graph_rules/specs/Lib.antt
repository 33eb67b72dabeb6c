-- The rule of a path's vertex alone, beside the rules of the graph file; an edge of the code.
pub mod Rise
pub mod Edges
