pub mod Balance
pub mod Crossing
pub mod NameLemmas
pub mod SpotLemmas
pub mod TableTheorem
pub mod TableValues
pub mod WordLemmas
