-- What the plain pass asks of the anchors that it takes in read order.
pub mod Places
