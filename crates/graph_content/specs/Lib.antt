-- The definitions of content in lent buffers and of its first fault, beside those of the graph file.
pub mod Used
pub mod Faults
pub mod Search
pub mod Flags
