-- What single tokens, pairs of parentheses and types are, and the readers on lists.
pub mod Tokens
pub mod Parentheses
pub mod Types
pub mod TokenReaders
pub mod TypeReaders
