-- The starred cases of document 01, as one list.
pub mod Cases
