pub mod Closing
pub mod Listing
pub mod ReadAs
