pub mod Candidates
pub mod Merges
pub mod Rows
pub mod Spots
pub mod Tables
