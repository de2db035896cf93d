pub mod Taking
pub mod Entered
pub mod CoreLists
pub mod Fitting
