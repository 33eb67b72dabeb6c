-- That every starred case holds, and that the listing's files are a worked case.
pub mod Proved
pub mod ListingFiles
