pub mod Captures
pub mod Mentions
pub mod Counts
pub mod Uses
