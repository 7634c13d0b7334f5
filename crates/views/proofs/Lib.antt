pub mod Back
pub mod Loads
pub mod Stacks
pub mod Bounds
pub mod OrderRanges
