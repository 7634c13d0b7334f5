pub mod Order
pub mod UsedTrucks
pub mod RowMost
pub mod Rows
pub mod Runs
pub mod Reading
