-- What a grammar spells, what a reader answers, and when its answers are exact.
pub mod Spelling
pub mod Reading
pub mod Exact
pub mod Whole
pub mod Gives
pub mod Laws
