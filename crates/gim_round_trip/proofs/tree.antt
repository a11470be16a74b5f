-- What a tree that writes a function says of its parts, and that it stands for this function.
pub mod DistinctTexts
pub mod FunctionParts
pub mod Identifiers
pub mod KnownNames
pub mod Occurrences
pub mod OccurringTexts
pub mod PairedLists
pub mod Rows
pub mod SmallNumbers
pub mod StandingFunctions
pub mod StandingNames
pub mod WellFormedParts
pub mod WhatOccurs
pub mod Writes
