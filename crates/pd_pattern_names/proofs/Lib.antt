-- What is shown of the rules on patterns.
mod Counts
