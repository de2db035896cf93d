pub mod Files
pub mod Errors
pub mod Calls
pub mod Outcomes
pub mod Replacing
