pub mod LineLemmas
pub mod ServeLemmas
