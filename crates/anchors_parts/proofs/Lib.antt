-- The laws of the labels' places, of one anchor and of the anchors one after the other.
pub mod LabelLaws
pub mod EachLaws
