pub mod Histories
pub mod Witnesses
pub mod Worked
