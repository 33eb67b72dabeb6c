-- The definitions of the anchor file. Each rule of document 01 stands once, and is cited by its sentence.
pub mod Anchors
pub mod AnchorRules
pub mod GoodAnchors
pub mod AnchorBytes
pub mod AnchorReading
pub mod AnchorPlaces
pub mod AnchorEntries
pub mod View
