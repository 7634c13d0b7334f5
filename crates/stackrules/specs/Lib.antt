pub mod StackRules
pub mod Props
pub mod Loaded
