pub mod Elements
pub mod Fit
pub mod Matching
pub mod Search
pub mod Instances
