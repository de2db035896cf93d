pub mod Outcomes
pub mod Rows
