pub mod CText
pub mod Cursors
pub mod Listing
pub mod Patterns
pub mod Results
pub mod Texts
