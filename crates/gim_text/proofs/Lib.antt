pub mod NameLemmas
pub mod OccurrenceLemmas
pub mod Membership
pub mod FrontsAndRests
pub mod SameTexts
