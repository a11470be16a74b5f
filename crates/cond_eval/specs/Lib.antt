pub mod CValues
pub mod Calls
pub mod Declarations
pub mod Environments
pub mod Operators
pub mod Readings
pub mod Values
pub mod Words
