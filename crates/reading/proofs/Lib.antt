pub mod Filling
pub mod Outer
pub mod Fixed
