-- What is shown of the stages of depth and syntax.
mod DepthSteps
pub mod Depths
pub mod BoundedReading
mod HeadsExact
pub mod PatternsExact
pub mod PartsExact
pub mod LeavesExact
mod SwitchItems
pub mod ResultsExact
pub mod TailsExact
