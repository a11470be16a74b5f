-- What is shown of the stage of syntax over whole files.
mod NodesExact
mod ListsExact
mod FormsExact
mod FilesExact
mod OneOutcome
