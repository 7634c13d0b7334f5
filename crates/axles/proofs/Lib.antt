pub mod Signed
pub mod Walks
pub mod Rows
pub mod Departures
pub mod Amounts
