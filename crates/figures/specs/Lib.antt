pub mod Bounds
pub mod Views
pub mod Parts
