-- What lies in a buffer once a section is laid into it.
pub mod Filling
