pub mod AllRuns
pub mod KeptRuns
pub mod PhiArguments
pub mod PresentValues
pub mod ReachedPoints
pub mod SameReading
pub mod Unfolding
