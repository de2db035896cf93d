pub mod Said
pub mod Walks
