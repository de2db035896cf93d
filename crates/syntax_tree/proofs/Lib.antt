pub mod Places
pub mod Mappings
pub mod Memory
pub mod WayLevels
pub mod NestedWalks
pub mod Descents
pub mod ChildTokens
