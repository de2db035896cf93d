pub mod Told
pub mod Next
pub mod Lists
pub mod Parts
