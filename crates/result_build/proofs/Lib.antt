pub mod Folding
pub mod Operands
pub mod RawTypes
pub mod SameTypes
pub mod TermTypes
