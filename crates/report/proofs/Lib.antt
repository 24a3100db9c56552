pub mod InTurn
pub mod Places
pub mod Whole
pub mod Program
