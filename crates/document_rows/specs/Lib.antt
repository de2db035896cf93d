pub mod Pending
pub mod Rows
