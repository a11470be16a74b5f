pub mod Choices
pub mod DefinedByRule
pub mod Enumeration
pub mod Methods
pub mod Order
