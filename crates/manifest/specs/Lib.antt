pub mod Manifest
pub mod Props
