-- The laws of laying sections into buffers.
pub mod Items
pub mod Fronts
pub mod Packing
pub mod Decoding
pub mod PathRooms
