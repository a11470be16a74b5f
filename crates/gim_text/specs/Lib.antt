pub mod Faults
pub mod Literals
pub mod Meanings
pub mod Occurrences
pub mod Texts
