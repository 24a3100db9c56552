pub mod Writes
pub mod Fresh
pub mod Taking
