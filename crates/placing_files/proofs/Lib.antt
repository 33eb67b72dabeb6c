-- What the work over an accepted graph file rests on.
pub mod Read
