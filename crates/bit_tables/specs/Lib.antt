pub mod Spots
pub mod TableClass
pub mod TableEqual
pub mod WrappedWords
