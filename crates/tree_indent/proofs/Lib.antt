pub mod Shifting
pub mod SetOut
pub mod Replacing
pub mod ChildPairs
