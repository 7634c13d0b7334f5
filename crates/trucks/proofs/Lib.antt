pub mod Repeat
pub mod RowWords
pub mod Docks
pub mod Truck
