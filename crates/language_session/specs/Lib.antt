pub mod Sessions
pub mod Steps
pub mod Runs
pub mod Clients
pub mod Laws
