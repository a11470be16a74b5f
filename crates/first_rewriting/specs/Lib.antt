pub mod Choices
pub mod Reaches
pub mod Rewriting
pub mod Rows
pub mod Typed
pub mod Views
