pub mod Promised
pub mod Refused
