-- The rules on the names, flags and captures of one pattern, and what is known where it stands.
pub mod Known
pub mod Heads
pub mod Flags
pub mod Patterns
pub mod Captures
pub mod Uses
