pub mod Follow
pub mod Ended
pub mod Storing
pub mod Judging
pub mod Largest
pub mod Number
