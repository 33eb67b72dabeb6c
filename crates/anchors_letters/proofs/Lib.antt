-- The laws of the comparison of an anchor's letters.
pub mod LetterLaws
