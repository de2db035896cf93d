pub mod Names
pub mod MacroNames
