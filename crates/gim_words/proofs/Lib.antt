-- Exactness of each reader.
pub mod TokensExact
pub mod BalancedExact
pub mod TypesExact
pub mod TypeWordsInOrder
