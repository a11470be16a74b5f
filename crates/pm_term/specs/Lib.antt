pub mod Environments
pub mod Refines
pub mod Terms
pub mod TermTrees
pub mod TreeCodes
pub mod Trees
