-- Rounds in place until one is quiet, as document 01 has them. Read in this order: what a round is and how rounds are counted; what one entry takes; a table
-- and a vector; the target; the three kinds of rule; what contracts cite. Assumes nothing.
pub mod Rounds
pub mod Gather
pub mod Rule
pub mod Place
pub mod Table
pub mod Best
pub mod Kinds
pub mod Loop
