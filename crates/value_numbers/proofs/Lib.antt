pub mod SpotLists
pub mod TakenNames
pub mod MergedFunctions
pub mod OneAnswer
pub mod TableLemmas
pub mod RowsAfterMerge
