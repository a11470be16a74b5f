pub mod Canons
pub mod Given
pub mod Marks
pub mod Names
pub mod RawResults
pub mod TypedResults
