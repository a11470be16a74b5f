-- What a token means, and what a symbol is to a grammar.
pub mod Meanings
pub mod Symbols
