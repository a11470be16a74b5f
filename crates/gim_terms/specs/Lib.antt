pub mod Fitting
pub mod FullOperations
pub mod Lookups
pub mod Matching
pub mod Reached
pub mod Rights
pub mod Targets
pub mod Views
