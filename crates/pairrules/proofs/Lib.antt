pub mod Places
pub mod Sorted
pub mod Ranks
pub mod Reading
pub mod Pairs
pub mod Partners
pub mod Search
