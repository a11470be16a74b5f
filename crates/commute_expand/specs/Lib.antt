pub mod Choices
pub mod Groups
pub mod Marks
pub mod Orders
pub mod Faults
