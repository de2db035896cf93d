pub mod Replacements
