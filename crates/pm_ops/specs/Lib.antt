pub mod Codes
pub mod Faults
pub mod Names
pub mod Predicates
