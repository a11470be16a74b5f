-- What the program answers: its status, and what it writes to `out` and to `report`.
use Rattle.std.specs.Prelude.{◌≡◌, ◌⊎◌, ℕ, false, cond, List, [], Result, Ok, Err}
use Rattle.gim_ast.specs.declared.function.Function.{Function}
use Rattle.gim_printer.specs.Printing.{text}
use Rattle.match_top.specs.Refusals.{line}
use Rattle.match_top.specs.declared.answer.Output.{Output}
use Rattle.match_top.specs.declared.answer.Stop.{Stop}
use Rattle.match_top.specs.declared.answer.Stop.TheVariants.{Memory, Refusal}
use Rattle.match_top.specs.declared.status.Cause.{Cause}
use Rattle.match_top.specs.declared.status.Status.{Status}
use Rattle.match_top.specs.declared.status.Status.TheVariants.{Done, Exhausted, Refused, NoMemory}

-- the output of work that came to its end, or why it ended before
abbrev pub Answer : Type 0
Answer = Result Output Stop

-- a refusal with one line
abbrev pub refusal : Cause → List ℕ → Stop
refusal cause words = Refusal cause (line words)

-- this refusal, unless memory ran out
abbrev pub OrMemory : Stop → Stop → Type 0
OrMemory wanted stop = (stop ≡ wanted) ⊎ (stop ≡ Memory)

-- an answer that is right, unless memory ran out
abbrev pub RightOrMemory : (Answer → Type 0) → Answer → Type 0
RightOrMemory is_right answer = is_right answer ⊎ (answer ≡ Err Memory)

-- this answer, unless memory ran out
abbrev pub IsOrMemory : Answer → Answer → Type 0
IsOrMemory wanted answer = (answer ≡ wanted) ⊎ (answer ≡ Err Memory)

-- these functions, printed, and a text for `report`
abbrev pub printed : List Function → List ℕ → Answer
printed fs report = Ok (record { exhausted = false; out = text fs; report = report })

-- ---- its parts

abbrev pub status_of_output : Output → Status
status_of_output output = cond output.exhausted Exhausted Done

abbrev pub status_of : Answer → Status
status_of (Ok output) = status_of_output output
status_of (Err (Refusal cause text)) = Refused cause
status_of (Err Memory) = NoMemory

-- only work that came to its end has a text for `out`
abbrev pub out_of : Answer → List ℕ
out_of (Ok output) = output.out
out_of (Err stop) = []

-- with want of memory nothing is written
abbrev pub report_of : Answer → List ℕ
report_of (Ok output) = output.report
report_of (Err (Refusal cause text)) = text
report_of (Err Memory) = []
