pub mod Digits
pub mod Cases
