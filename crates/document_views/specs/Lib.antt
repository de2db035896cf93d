pub mod Words
pub mod Listings
