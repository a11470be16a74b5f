pub mod PrintedFunctions
pub mod ReadFunctions
pub mod rules
pub mod text
pub mod tree
