pub mod Functions
pub mod Identifiers
pub mod Numbers
pub mod Paths
pub mod Readable
pub mod RulesByPart
pub mod Runs
pub mod WellFormed
