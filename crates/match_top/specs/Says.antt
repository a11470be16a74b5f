-- What each status says of the files that the inputs hold.
use Rattle.std.specs.Prelude.{◌≡◌, ◌⊎◌, ℕ, ◌<◌, ◌≤◌, true, List, [], ◌∷◌, length, Option, Some, None, ⊤}
use Rattle.match_top.specs.Answer.{Answer, status_of}
use Rattle.match_top.specs.Commands.{needs_of, work_of, may_end}
use Rattle.match_top.specs.Given.{Work}
use Rattle.match_top.specs.Needs.{Need, Value, StandsFor, IsRefusedWith, cause_of, limit_of}
use Rattle.match_top.specs.declared.commands.Command.{Command}
use Rattle.match_top.specs.declared.needs.Kind.{Kind}
use Rattle.match_top.specs.declared.status.Cause.{Cause}
use Rattle.match_top.specs.declared.status.Cause.TheVariants.{NoCommand, BadPatterns, BadFunctions, NoFile, Undefined, OutOfFuel, NoRun}
use Rattle.match_top.specs.declared.status.Status.{Status}
use Rattle.match_top.specs.declared.status.Status.TheVariants.{Done, Exhausted, Refused, WriteFailed, NoMemory}

-- a held file that stands for this
pub record IsAccepted (kind : Kind) (holds : Option (List ℕ)) (value : Value kind) : Type 0 where
  pub source : List ℕ
  pub held : holds ≡ Some source
  pub within : length source ≤ limit_of kind
  pub stands : StandsFor kind source value

-- a held file that is too long or stands for nothing
pub record IsRefused (kind : Kind) (holds : Option (List ℕ)) : Type 0 where
  pub source : List ℕ
  pub held : holds ≡ Some source
  pub refused : (limit_of kind < length source) ⊎ ((text : List ℕ) × IsRefusedWith kind source text)

module _ (held : List ℕ → Option (List ℕ)) where
  -- each file is accepted, and the work ends so
  abbrev pub Ends : (needs : List Need) → Work needs → Status → Type 0
  Ends [] is_right status = (answer : Answer) × is_right answer × (status_of answer ≡ status)
  Ends (need ∷ needs) work status = (value : Value need.kind) × IsAccepted need.kind (held need.name) value × Ends needs (work value) status

  -- a file is refused for this cause, and those before it are accepted
  abbrev pub Refuses : List Need → Cause → Type 0
  Refuses [] cause = ⊥
  Refuses (need ∷ needs) cause = ((cause_of need.kind ≡ cause) × IsRefused need.kind (held need.name))
      ⊎ (((value : Value need.kind) × IsAccepted need.kind (held need.name) value) × Refuses needs cause)

  -- a file isn't there, and those before it are accepted
  abbrev pub Lacks : List Need → Type 0
  Lacks [] = ⊥
  Lacks (need ∷ needs) = (held need.name ≡ None) ⊎ (((value : Value need.kind) × IsAccepted need.kind (held need.name) value) × Lacks needs)

-- the command's work on accepted files may end so, and does
abbrev pub IsDone : (List ℕ → Option (List ℕ)) → Option Command → Status → Type 0
IsDone held command status = (may_end command status ≡ true) × Ends held (needs_of command) (work_of command) status

-- What the status says of the held files, where `failed` says that a read failed.
abbrev pub StatusSays : (List ℕ → Option (List ℕ)) → Option Command → (failed : Type 0) → Status → Type 0
StatusSays held command failed Done = IsDone held command Done
StatusSays held command failed Exhausted = IsDone held command Exhausted
StatusSays held command failed (Refused NoCommand) = IsDone held command (Refused NoCommand)
StatusSays held command failed (Refused BadPatterns) = Refuses held (needs_of command) BadPatterns
StatusSays held command failed (Refused BadFunctions) = Refuses held (needs_of command) BadFunctions
StatusSays held command failed (Refused NoFile) = Lacks held (needs_of command) ⊎ failed
StatusSays held command failed (Refused Undefined) = IsDone held command (Refused Undefined)
StatusSays held command failed (Refused OutOfFuel) = IsDone held command (Refused OutOfFuel)
StatusSays held command failed (Refused NoRun) = IsDone held command (Refused NoRun)
StatusSays held command failed WriteFailed = ⊤
StatusSays held command failed NoMemory = ⊤
