pub mod HoldLemmas
pub mod PhiLemmas
pub mod SlotLemmas
pub mod StartLemmas
pub mod StepLemmas
