pub mod Kinds
pub mod Bones
pub mod Leaves
pub mod Places
pub mod Patterns
