pub mod Walk
pub mod Numbers
pub mod Files
pub mod Faults
pub mod Whole
pub mod Going
