pub mod Cutting
pub mod FirstFaults
pub mod Fronts
pub mod LongestMatch
pub mod NumberLemmas
pub mod Scanning
pub mod Sound
