pub mod Numbers
pub mod Headers
pub mod Frames
pub mod Laws
pub mod Messages
