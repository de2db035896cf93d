pub mod Places
pub mod Changes
pub mod Differences
pub mod Laws
