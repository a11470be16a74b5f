pub mod FirstFaults
pub mod Judging
pub mod Places
pub mod Spans
