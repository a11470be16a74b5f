pub mod RowSearch
pub mod SignedNumbers
