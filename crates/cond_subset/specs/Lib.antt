-- What C parts are: trees, operators, the grammar, and the readers on lists.
pub mod Trees
pub mod Operators
pub mod Grammar
pub mod Readers
pub mod GoesOn
pub mod Declarations
pub mod Words
pub mod DeclarationReaders
pub mod Syntax
pub mod WholeReaders
pub mod Names
pub mod Signatures
pub mod Types
pub mod Leaves
pub mod Making
pub mod Blocks
pub mod Outcomes
