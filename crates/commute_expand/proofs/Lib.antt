pub mod ChoiceLemmas
pub mod OrderLemmas
pub mod Alone
pub mod Counted
pub mod Untouched
