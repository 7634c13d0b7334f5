pub mod Progress
pub mod Digits
pub mod Line
