pub mod Fronting
