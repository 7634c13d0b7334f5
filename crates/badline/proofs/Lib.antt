pub mod Spans
pub mod Parts
pub mod Fixed
