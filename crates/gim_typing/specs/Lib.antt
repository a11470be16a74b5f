pub mod Declarations
pub mod Operands
pub mod Types
