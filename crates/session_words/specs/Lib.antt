pub mod Escapes
pub mod Bodies
pub mod Members
pub mod Messages
pub mod Asked
pub mod Changes
pub mod Facts
pub mod Replies
