-- The law of the way back over a last edge.
pub mod WalkBack
