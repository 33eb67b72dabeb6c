pub mod DigitLaws
pub mod CaseLaws
