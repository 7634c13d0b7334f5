pub mod Parts
pub mod Order
pub mod Bounds
pub mod Words
pub mod Access
pub mod Fill
