pub mod Apart
pub mod Cost
pub mod Told
pub mod Verdicts
