-- One anchor as the code holds it.
pub mod OneAnchor
