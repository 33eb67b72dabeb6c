-- The content that the anchor writer is given, and the first fault of its anchors.
pub mod Given
pub mod FirstFaults
