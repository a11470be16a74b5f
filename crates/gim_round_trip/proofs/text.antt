-- From the text of functions to the tokens that it is cut into and the trees that they spell.
pub mod Blocks
pub mod Constants
pub mod Ends
pub mod Files
pub mod Functions
pub mod Lines
pub mod Marks
pub mod Numbers
pub mod Operands
pub mod OperationSigns
pub mod Prints
pub mod RestOfSource
pub mod RightSides
pub mod Sequences
pub mod Tokens
pub mod TypeTexts
pub mod Words
