-- Which symbols spell the forms of a pattern file, and what the stage of syntax answers.
pub mod Forms
pub mod FormReaders
pub mod Files
