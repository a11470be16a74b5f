pub mod Fronts
pub mod Cutting
pub mod LongestMatch
pub mod NumberTexts
