pub mod SpotShapes
pub mod SpotTests
pub mod Constructed
pub mod BlockLookups
