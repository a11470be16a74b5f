pub mod ShortCircuit
pub mod TextTables
pub mod Judging
pub mod DeclaredIdentifiers
pub mod NamesKept
pub mod BlocksKeepNames
pub mod OccurrencesAreOne
