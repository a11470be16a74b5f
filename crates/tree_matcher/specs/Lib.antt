pub mod Looks
pub mod Scanning
