pub mod WellSpaced
pub mod SpacedText
pub mod Spelled
pub mod Laws
pub mod Examples
