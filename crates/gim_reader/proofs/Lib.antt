pub mod OneFile
pub mod Stages
pub mod WrittenTrees
pub mod OneAnswer
pub mod WithinSource
