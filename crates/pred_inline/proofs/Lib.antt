pub mod Counted
pub mod Limits
pub mod Outside
pub mod Placing
