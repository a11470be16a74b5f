-- Words of the contracts, and what the owners are inside a type that holds itself.
pub mod Lends
pub mod formers
