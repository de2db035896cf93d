pub mod Stands
pub mod Moves
pub mod Reads
pub mod Layers
pub mod Looks
pub mod Starts
pub mod Turns
pub mod Operators
