pub mod Words
pub mod Mentions
