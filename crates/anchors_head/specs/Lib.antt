-- What the head of an anchor file answers.
pub mod Head
