pub mod Counted
pub mod Rates
pub mod RateLaws
pub mod Losses
pub mod LossLaws
pub mod Comparisons
