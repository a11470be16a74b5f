pub mod FileLemmas
pub mod Loop
pub mod RowLemmas
pub mod RowsLemmas
pub mod Runs
pub mod TokenLemmas
