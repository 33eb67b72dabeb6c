-- The definitions that the check of the paths goes by: the search for a step, the marks, and what is answered.
pub mod Steps
pub mod Marks
pub mod PathAnswers
