-- What a file is, which fault it has, and the readers on lists.
pub mod Grammar
pub mod Readers
pub mod SyntaxFaults
