-- The closure lemmas of exact reading.
pub mod Lists
pub mod Basics
pub mod Parts
pub mod Sequence
pub mod Machine
pub mod Repetition
pub mod Chains
pub mod Loops
pub mod Recursion
pub mod WholeInput
pub mod EveryInput
pub mod Starts
pub mod Items
pub mod ItemLoops
