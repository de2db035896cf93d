pub mod Rewritten
pub mod Orders
pub mod Fits
