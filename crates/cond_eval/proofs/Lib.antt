pub mod Arguments
pub mod CountLemmas
pub mod IntegerLemmas
pub mod Lookups
pub mod ReadingLemmas
pub mod WordLemmas
