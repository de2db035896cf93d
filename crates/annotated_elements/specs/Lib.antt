pub mod Following
pub mod Follows
pub mod Nearest
pub mod Found
pub mod Changed
pub mod Annotated
pub mod Groups
pub mod Laws
