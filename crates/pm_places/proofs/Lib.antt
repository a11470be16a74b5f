pub mod FaultLemmas
pub mod FirstPlaces
