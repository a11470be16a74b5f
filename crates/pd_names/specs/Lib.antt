-- The stage of names of a pattern file: which rules on names there are, and the first place in the order of the file at which one is broken.
pub mod Parts
pub mod Blocks
pub mod Results
pub mod Tails
pub mod Lists
pub mod Forms
