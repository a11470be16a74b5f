pub mod DeclaredTypes
