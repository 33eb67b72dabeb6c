-- The definitions of the anchors in read order.
pub mod Order
