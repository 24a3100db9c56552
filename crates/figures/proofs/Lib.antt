pub mod Worths
pub mod Bounded
pub mod Turns
