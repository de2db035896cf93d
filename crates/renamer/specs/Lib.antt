pub mod Renamed
pub mod Taken
pub mod Plain
pub mod Verdict
pub mod Undone
pub mod Errors
