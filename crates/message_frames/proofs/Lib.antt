pub mod Digits
pub mod Fields
pub mod FrameLemmas
pub mod HeaderLemmas
pub mod Writes
