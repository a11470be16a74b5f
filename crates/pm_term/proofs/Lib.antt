pub mod OperandValues
pub mod RefiningLaws
pub mod TermLaws
pub mod TreeLemmas
