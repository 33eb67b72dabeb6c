-- The definitions of the wire layer. Each rule of document 01 stands once, and is cited by its sentence.
pub mod Cases
pub mod Refusals
pub mod Sizes
pub mod Numbers
pub mod Letters
pub mod Lent
pub mod Found
