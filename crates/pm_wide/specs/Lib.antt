pub mod Congruence
pub mod Operands
pub mod Operations
pub mod Residues
pub mod Types
pub mod Typing
