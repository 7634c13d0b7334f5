pub mod Outcomes
pub mod Fixed
