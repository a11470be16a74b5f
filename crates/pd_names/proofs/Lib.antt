-- What is shown of the stage of names.
mod Counts
mod Firsts
mod Choices
