pub mod AssignedOnce
mod BlockParts
mod BoundParts
mod DeclarationParts
pub mod FirstUnreadable
pub mod FuelLemmas
mod ListTests
pub mod NameParts
pub mod NumberLemmas
mod OperandParts
pub mod ReadableLemmas
pub mod RisingNames
mod RowSearch
mod SupportLemmas
mod WellFormedTest
