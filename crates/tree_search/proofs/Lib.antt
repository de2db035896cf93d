pub mod Heads
pub mod Taking
pub mod Fits
pub mod Bindings
pub mod Sizes
pub mod Searches
pub mod InstanceLaws
