-- Each owner as a type that may hold the type that holds it.
pub mod boxed
pub mod items
pub mod shared
