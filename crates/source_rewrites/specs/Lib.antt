pub mod Rewriting
pub mod Rewrites
pub mod CommandFile
