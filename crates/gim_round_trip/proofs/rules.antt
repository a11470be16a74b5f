-- No rule on names, shape, types and limits is broken by a tree that writes a function.
pub mod KeptRules
pub mod LimitsSound
pub mod NamesSound
pub mod Redefined
pub mod ShapeSound
pub mod TypesSound
pub mod Undeclared
