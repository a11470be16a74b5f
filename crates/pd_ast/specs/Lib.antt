pub mod Calls
pub mod Operators
pub mod Predicates
