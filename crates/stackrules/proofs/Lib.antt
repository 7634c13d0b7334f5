pub mod Items
pub mod Tally
pub mod Docks
pub mod Stacks
pub mod Kept
pub mod First
