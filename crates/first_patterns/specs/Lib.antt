pub mod FirstForm
pub mod Matching
pub mod Reading
pub mod Subjects
