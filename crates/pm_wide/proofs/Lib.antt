pub mod Congruence
pub mod Partial
pub mod Residues
pub mod Results
pub mod Values
pub mod Whole
pub mod Words
pub mod Wrapping
