-- What a block and its parts are, and the readers on lists.
pub mod Words
pub mod Grammar
pub mod OperandReaders
pub mod RightReaders
pub mod ItemReaders
pub mod BlockReaders
