pub mod Weights
pub mod Props
