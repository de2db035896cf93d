pub mod Entries
pub mod Grammars
pub mod Core
