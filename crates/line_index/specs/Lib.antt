pub mod Lines
pub mod Columns
pub mod Laws
