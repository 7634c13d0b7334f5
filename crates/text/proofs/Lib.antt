pub mod Bytes
pub mod Numbers
pub mod Values
pub mod Lines
pub mod Judged
