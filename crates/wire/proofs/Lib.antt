-- The laws of the wire layer. Callers cite NumberLaws, Reading (read_same), Encoding, Rest, Laying, Alphabet, Finding, Giving, Cutting and Replying.
pub mod Reading
pub mod Encoding
pub mod Putting
pub mod Rest
pub mod NumberLaws
pub mod Laying
pub mod Alphabet
pub mod Finding
pub mod Giving
pub mod Cutting
pub mod Replying
