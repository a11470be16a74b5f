pub mod Drafts
pub mod IntegerTypes
pub mod OwnTypes
pub mod TypeRules
