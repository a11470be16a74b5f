-- What the files that a command needs gave, and what it answers to them.
use Rattle.std.specs.Prelude.{◌≡◌, ◌⊎◌, ℕ, ◌<◌, ◌≤◌, true, List, [], ◌∷◌, length, take, map, Option, Some, None, IfSome, IsSome, IsSomeAnd, Result, Ok, Err, ⊤}
use Rattle.pm_io.specs.Causes.{Rose}
use Rattle.pm_io.specs.InputState.{InputState}
use Rattle.pm_io.specs.Taking.{followed_by}
use Rattle.pm_io.specs.declared.faults.ReadFault.{ReadFault}
use Rattle.pm_io.specs.declared.faults.ReadFault.TheVariants as faults
use Rattle.match_top.specs.Answer.{Answer, refusal, OrMemory, RightOrMemory}
use Rattle.match_top.specs.Needs.{Need, Value, StandsFor, IsRefusedWith, cause_of, limit_of, too_long_text}
use Rattle.match_top.specs.Refusals.{missing_text, unread_text}
use Rattle.match_top.specs.declared.needs.Kind.{Kind}
use Rattle.match_top.specs.declared.answer.Stop.{Stop}
use Rattle.match_top.specs.declared.answer.Stop.TheVariants.{Memory}
use Rattle.match_top.specs.declared.status.Cause.TheVariants.{NoFile}

-- what came of reading a file whole
pub data Given : Type 0 where
  -- its bytes, no more than the limit
  Bytes : List ℕ → Given
  -- the inputs have no such file
  Missing : Given
  -- it has more bytes than the limit
  TooLong : Given
  -- the inputs failed
  Unread : Given
  -- there was no memory for its bytes
  NoRoom : Given

-- ---- what the files gave

-- what the inputs hold and whether a read of theirs failed, against what a file gave
abbrev pub Gives : (failed : Type 0) → Option (List ℕ → Option (List ℕ)) → Need → Given → Type 0
Gives failed told need (Bytes bytes) = (length bytes ≤ limit_of need.kind) × IfSome told (λ held. held need.name ≡ Some bytes)
Gives failed told need Missing = IfSome told (λ held. held need.name ≡ None)
Gives failed told need TooLong = IfSome told (λ held. IsSomeAnd (held need.name) (λ file. limit_of need.kind < length file))
Gives failed told need Unread = failed
Gives failed told need NoRoom = IfSome told (λ held. IsSome (held need.name))

-- the same of the files that were begun, which are the first of those needed
abbrev pub Give : (failed : Type 0) → Option (List ℕ → Option (List ℕ)) → List Need → List Given → Type 0
Give failed told needs [] = ⊤
Give failed told [] (given ∷ more) = ⊥
Give failed told (need ∷ needs) (given ∷ more) = Gives failed told need given × Give failed told needs more

-- a file that was read is begun, and none of its bytes are left
abbrev pub IsReadWhole : InputState → Given → Type 0
IsReadWhole after (Bytes bytes) = (after.begun ≡ true) × IfSome after.holds (λ _. after.left ≡ [])
IsReadWhole after given = ⊤

-- the same of the file begun last
abbrev pub IsAtEnd : InputState → List Given → Type 0
IsAtEnd after [] = ⊤
IsAtEnd after (given ∷ []) = IsReadWhole after given
IsAtEnd after (given ∷ next ∷ more) = IsAtEnd after (next ∷ more)

-- The inputs before and after the files of these needs gave this.
pub record Came (needs : List Need) (before after : InputState) (given : List Given) : Type 0 where
  pub give : Give (Rose before.faults after.faults) before.holds needs given
  -- the names of the begun files are those that were asked for, in this order
  pub asked : after.asked ≡ followed_by before.asked (map (λ (need : Need). need.name) (take (length given) needs))
  pub untouched : given ≡ [] → after ≡ before
  pub at_end : IsAtEnd after given
  pub holds : after.holds ≡ before.holds
  pub later : before.faults ≤ after.faults

-- ---- one file

-- why a file that was read is refused
pub record IsRefusal (kind : Kind) (source : List ℕ) (stop : Stop) : Type 0 where
  pub text : List ℕ
  pub refused : IsRefusedWith kind source text
  pub answered : stop ≡ refusal (cause_of kind) text

-- what the bytes of a file stand for, or why they are refused
abbrev pub Judges : (kind : Kind) → List ℕ → Result (Value kind) Stop → Type 0
Judges kind source (Ok value) = StandsFor kind source value
Judges kind source (Err stop) = IsRefusal kind source stop ⊎ (stop ≡ Memory)

-- why a file that wasn't read ends the work
abbrev pub EndsUnread : Need → Given → Stop → Type 0
EndsUnread need (Bytes source) stop = ⊥
EndsUnread need Missing stop = OrMemory (refusal NoFile (missing_text need.name)) stop
EndsUnread need TooLong stop = OrMemory (refusal (cause_of need.kind) (too_long_text need.kind)) stop
EndsUnread need Unread stop = OrMemory (refusal NoFile (unread_text need.name)) stop
EndsUnread need NoRoom stop = stop ≡ Memory

-- what a file that gave this comes to
abbrev pub ComesTo : (need : Need) → Given → Result (Value need.kind) Stop → Type 0
ComesTo need (Bytes source) stage = Judges need.kind source stage
ComesTo need given (Ok value) = ⊥
ComesTo need given (Err stop) = EndsUnread need given stop

-- ---- all of them

-- A command's work on what its files stand for, one after the other: which answers are right.
abbrev pub Work : List Need → Type 1
Work [] = Answer → Type 0
Work (need ∷ needs) = Value need.kind → Work needs

-- with the value the work goes on; where there is none it ends, and no further file is begun
abbrev pub GoesOn : {X : Type 0} → Result X Stop → (X → Type 0) → List Given → Answer → Type 0
GoesOn (Ok value) next more answer = next value
GoesOn (Err stop) next more answer = (more ≡ []) × (answer ≡ Err stop)

pub record Reads (need : Need) (given : Given) (more : List Given) (answer : Answer) (next : Value need.kind → Type 0) : Type 0 where
  pub stage : Result (Value need.kind) Stop
  pub comes : ComesTo need given stage
  pub goes_on : GoesOn stage next more answer

-- What work answers where the files that were begun gave this: each is judged before the next is begun. Want of memory is free.
abbrev pub Answers : (needs : List Need) → Work needs → List Given → Answer → Type 0
Answers [] is_right given answer = (given ≡ []) × RightOrMemory is_right answer
Answers (need ∷ needs) work [] answer = answer ≡ Err Memory
Answers (need ∷ needs) work (given ∷ more) answer = Reads need given more answer (λ value. Answers needs (work value) more answer)

-- What was answered, and what became of the inputs.
pub record Answered (needs : List Need) (work : Work needs) (before after : InputState) (answer : Answer) : Type 0 where
  pub given : List Given
  pub came : Came needs before after given
  pub answers : Answers needs work given answer

-- the answer to files that are held, where no read fails
pub record AnswersHeld (needs : List Need) (work : Work needs) (held : List ℕ → Option (List ℕ)) (answer : Answer) : Type 0 where
  pub given : List Given
  pub give : Give ⊥ (Some held) needs given
  pub answers : Answers needs work given answer

-- ---- stages of the program

-- what a file gave that wasn't read
abbrev pub given_by_fault : ReadFault → Given
given_by_fault faults.Missing = Missing
given_by_fault faults.TooLong = TooLong
given_by_fault faults.Read = Unread
given_by_fault faults.Memory = NoRoom

-- the bytes that a file gave, or why it gave none
abbrev pub Keeps : Need → Given → Result (List ℕ) Stop → Type 0
Keeps need (Bytes source) result = result ≡ Ok source
Keeps need given (Ok bytes) = ⊥
Keeps need given (Err stop) = EndsUnread need given stop

-- what came of asking for one file
pub record Asked (need : Need) (before after : InputState) (result : Result (List ℕ) Stop) : Type 0 where
  pub given : Given
  pub came : Came (need ∷ []) before after (given ∷ [])
  pub keeps : Keeps need given result

-- what came of one file
pub record Staged (need : Need) (before after : InputState) (stage : Result (Value need.kind) Stop) : Type 0 where
  pub given : Given
  pub came : Came (need ∷ []) before after (given ∷ [])
  pub comes : ComesTo need given stage
