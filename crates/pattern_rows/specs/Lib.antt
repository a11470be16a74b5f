pub mod Counting
pub mod Places
pub mod Patterns
pub mod Spots
pub mod TestRows
pub mod Found
