-- Exactness from the option list up to the file, and its fault.
pub mod OptionsExact
pub mod DeclarationsExact
pub mod FunctionExact
pub mod FileExact
pub mod SyntaxFaulted
