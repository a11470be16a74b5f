pub mod Arguments
pub mod Filled
pub mod Opened
pub mod OneUse
pub mod Inlined
pub mod Faults
