pub mod TextTables
pub mod Judging
pub mod DistinctTexts
pub mod FaultsByTables
pub mod ShapeKept
pub mod PlacesWithoutFault
