pub mod Ends
pub mod TokensLeft
