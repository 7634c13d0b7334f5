pub mod Placed
pub mod Props
