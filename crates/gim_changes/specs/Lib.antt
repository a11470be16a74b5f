pub mod Insertion
pub mod LastUnused
pub mod Removal
pub mod Substitution
pub mod Trimming
pub mod UsePlaces
pub mod Validity
