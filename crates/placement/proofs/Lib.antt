pub mod Trailer
pub mod Walk
pub mod Placing
