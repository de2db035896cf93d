pub mod Elements
pub mod Listed
pub mod Names
pub mod Reading
