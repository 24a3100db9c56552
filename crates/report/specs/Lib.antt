pub mod Lines
pub mod ProgramTerms
pub mod Reports
pub mod Outcomes
pub mod Printed
pub mod Sample
