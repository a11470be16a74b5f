pub mod CodeLemmas
pub mod FindLemmas
pub mod KindLemmas
pub mod NameLemmas
pub mod PredicateLemmas
pub mod SameCodes
