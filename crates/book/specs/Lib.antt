pub mod Tables
pub mod States
pub mod Takes
pub mod BookLaws
pub mod Promise
