-- The definitions of walks, tables and distances. Each rule of document 01 stands once, and is cited by its sentence.
pub mod Walks
pub mod Cells
pub mod CoverDistance
pub mod TableRounds
pub mod TableEntries
pub mod Finished
pub mod Row
pub mod LeastWalks
pub mod Worked
