pub mod Case
pub mod Cases
pub mod Rows
