-- That the promises of the listing admit one answer, and the worked listing.
pub mod Showing
pub mod WorkedListing
