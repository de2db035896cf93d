mod Pointers
mod Beside
mod Touching
pub mod Places
pub mod Lists
pub mod Steps
pub mod Walks
pub mod Lefts
pub mod Leaves
pub mod Ranges
pub mod Texts
pub mod Parts
pub mod Passing
pub mod Characters
pub mod Bytes
pub mod Stretches
pub mod Printing
pub mod PlaceLaws
