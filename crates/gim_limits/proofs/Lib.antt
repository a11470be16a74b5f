pub mod Counting
pub mod LimitsKept
pub mod ChosenTexts
pub mod DifferentTexts
