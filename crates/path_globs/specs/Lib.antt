pub mod Globs
