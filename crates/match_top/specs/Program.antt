-- What the program does on a command line, over its inputs and its sinks.
use Rattle.std.specs.Prelude.{◌≡◌, ◌⊎◌, ℕ, List, Option}
use Rattle.pm_io.specs.InputState.{InputState}
use Rattle.match_top.specs.Answer.{Answer}
use Rattle.match_top.specs.Commands.{needs_of, work_of}
use Rattle.match_top.specs.Given.{Answered, AnswersHeld}
use Rattle.match_top.specs.Status.{code}
use Rattle.match_top.specs.Writing.{Sunk, Writes, WroteAll}
use Rattle.match_top.specs.declared.commands.Command.{Command}
use Rattle.match_top.specs.declared.status.Cause.{Cause}
use Rattle.match_top.specs.declared.status.Status.TheVariants.{Refused, NoMemory}

-- there is an answer to the command and to what its files gave, and it was written
pub record Serves (command : Option Command) (before after : InputState) (out report : Sunk) (number : ℕ) : Type 0 where
  pub answer : Answer
  pub answered : Answered (needs_of command) (work_of command) before after answer
  pub writes : Writes answer out report number

-- the answer to the command and to the held files alone was written whole
pub record ServesHeld (command : Option Command) (held : List ℕ → Option (List ℕ)) (out report : Sunk) (number : ℕ) : Type 0 where
  pub answer : Answer
  pub answers : AnswersHeld (needs_of command) (work_of command) held answer
  pub wrote : WroteAll answer out report number

-- a refusal, or want of memory
abbrev pub IsSilent : ℕ → Type 0
IsSilent number = ((cause : Cause) × (number ≡ code (Refused cause))) ⊎ (number ≡ code NoMemory)
