pub mod Wrote
pub mod Appended
