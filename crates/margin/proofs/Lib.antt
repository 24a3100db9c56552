pub mod Clamping
pub mod Signs
pub mod Compared
