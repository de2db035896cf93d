pub mod Identities
pub mod Folders
