-- The definitions of the graph file. Each rule of document 01 stands once, and is cited by its sentence.
pub mod Content
pub mod Rules
pub mod Good
pub mod Encode
pub mod Reading
pub mod Placed
pub mod Entries
pub mod Used
