pub mod Blocks
pub mod Phis
pub mod Shape
pub mod Tables
pub mod HasShape
