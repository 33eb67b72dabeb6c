-- The laws of the delivered entries: each has one answer, the plain pass audits the sweep, and both meet demands 2 and 3; and that the views by which
-- the clauses of the library speak of results are one to one.
pub mod OneAnswer
pub mod Audit
pub mod Demanded
pub mod Views
