pub mod Arguments
pub mod Blocks
pub mod Machines
pub mod Outcomes
pub mod Places
pub mod Slots
pub mod Ways
