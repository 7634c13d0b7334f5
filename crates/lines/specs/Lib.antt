pub mod Within
pub mod Progress
