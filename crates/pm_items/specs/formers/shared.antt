-- The module `shared`: the type `Shared`.
pub mod Shared
