pub mod Chosen
pub mod Substituted
pub mod Operators
