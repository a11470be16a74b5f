pub mod Counts
pub mod Leasts
pub mod Rounds
pub mod Slots
