pub mod TokenNames
pub mod ClosedTokens
pub mod LeafNames
pub mod Forests
pub mod Trees
pub mod Replacements
pub mod Renames
