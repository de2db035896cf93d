pub mod Edit
pub mod Kept
pub mod Inside
pub mod Runs
pub mod Laws
