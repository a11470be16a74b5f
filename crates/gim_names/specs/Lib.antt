pub mod OccurrenceTexts
pub mod Rules
pub mod NamesFault
pub mod Tables
pub mod KeepsNames
