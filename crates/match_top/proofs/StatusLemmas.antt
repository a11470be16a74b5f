-- The numbers of statuses, and what an answer's status says of its texts.
use Rattle.std.proofs.Common.{◌≡◌, ◌⊎◌, ◌==◌, ℕ, Bool, true, false, cond, List, [], Result, Ok, Err, refl, sym, ap, ◌∙◌, inl, inr}
use Rattle.pm_io.specs.Causes.{Rose}
use Rattle.match_top.specs.Answer.{Answer, status_of, out_of, report_of}
use Rattle.match_top.specs.Program.{IsSilent}
use Rattle.match_top.specs.Status.{code}
use Rattle.match_top.specs.Writing.{Sunk, Writes, WroteAll}
use Rattle.match_top.specs.declared.answer.Stop.{Stop}
use Rattle.match_top.specs.declared.answer.Stop.TheVariants.{Memory, Refusal}
use Rattle.match_top.specs.declared.status.Cause.{Cause}
use Rattle.match_top.specs.declared.status.Cause.TheVariants.{NoCommand, BadPatterns, BadFunctions, NoFile, Undefined, OutOfFuel, NoRun}
use Rattle.match_top.specs.declared.status.Status.{Status}
use Rattle.match_top.specs.declared.status.Status.TheVariants.{Done, Refused, WriteFailed, Exhausted, NoMemory}

-- ---- statuses of one number are one

abbrev with_code : ℕ → Status
with_code n =
    cond (n == 0) Done (cond (n == 2) (Refused NoCommand) (cond (n == 3) (Refused BadPatterns) (cond (n == 4) (Refused BadFunctions) (cond (n == 5) (Refused NoFile)
    (cond (n == 6) WriteFailed (cond (n == 7) Exhausted (cond (n == 8) NoMemory (cond (n == 9) (Refused Undefined) (cond (n == 10) (Refused OutOfFuel) (Refused NoRun))))))))))

known : (status : Status) → with_code (code status) ≡ status
known Done = refl
known (Refused NoCommand) = refl
known (Refused BadPatterns) = refl
known (Refused BadFunctions) = refl
known (Refused NoFile) = refl
known WriteFailed = refl
known Exhausted = refl
known NoMemory = refl
known (Refused Undefined) = refl
known (Refused OutOfFuel) = refl
known (Refused NoRun) = refl

one_status : (s t : Status) → code s ≡ code t → s ≡ t
one_status s t e = sym (known s) ∙ ap with_code e ∙ known t

-- ---- what was written

-- the status is the answer's, or that of a failed write
pub status_or_failed : (answer : Answer) (out report : Sunk) (number : ℕ) (status : Status) → Writes answer out report number → number ≡ code status → (status ≡ status_of answer) ⊎ (status ≡ WriteFailed)
status_or_failed answer out report number status (inl whole) is = inl (one_status status (status_of answer) (sym is ∙ whole.status))
status_or_failed answer out report number status (inr (inl failed)) is = inr (one_status status WriteFailed (sym is ∙ failed.status))
status_or_failed answer out report number status (inr (inr failed)) is = inr (one_status status WriteFailed (sym is ∙ failed.status))

pub some_status : (answer : Answer) (out report : Sunk) (number : ℕ) → Writes answer out report number → (status : Status) × (number ≡ code status)
some_status answer out report number (inl whole) = (status_of answer, whole.status)
some_status answer out report number (inr (inl failed)) = (WriteFailed, failed.status)
some_status answer out report number (inr (inr failed)) = (WriteFailed, failed.status)

never_failed : (exhausted : Bool) → cond exhausted Exhausted Done ≡ WriteFailed → ⊥
never_failed true e = cc
never_failed false e = cc

no_answer_failed : (answer : Answer) → WriteFailed ≡ status_of answer → ⊥
no_answer_failed (Ok output) e = never_failed output.exhausted (sym e)
no_answer_failed (Err (Refusal cause text)) e = cc
no_answer_failed (Err Memory) e = cc

-- a write failed only where a sink's count rose
pub failed_only : (answer : Answer) (out report : Sunk) (number : ℕ) → Writes answer out report number → number ≡ code WriteFailed
    → Rose out.old.faults out.new.faults ⊎ Rose report.old.faults report.new.faults
failed_only answer out report number (inl whole) is = absurd (no_answer_failed answer (one_status WriteFailed (status_of answer) (sym is ∙ whole.status)))
failed_only answer out report number (inr (inl failed)) is = inl failed.out_front.cause
failed_only answer out report number (inr (inr failed)) is = inr failed.report_front.cause

-- where no sink's count rose, all was written
pub wrote_all : (answer : Answer) (out report : Sunk) (number : ℕ) → Writes answer out report number → ¬ Rose out.old.faults out.new.faults → ¬ Rose report.old.faults report.new.faults
    → WroteAll answer out report number
wrote_all answer out report number (inl whole) quiet_out quiet_report = whole
wrote_all answer out report number (inr (inl failed)) quiet_out quiet_report = absurd (quiet_out failed.out_front.cause)
wrote_all answer out report number (inr (inr failed)) quiet_out quiet_report = absurd (quiet_report failed.report_front.cause)

-- ---- refusals

never_refused : (exhausted : Bool) (cause : Cause) → Refused cause ≡ cond exhausted Exhausted Done → ⊥
never_refused true cause e = cc
never_refused false cause e = cc

never_memory : (exhausted : Bool) → NoMemory ≡ cond exhausted Exhausted Done → ⊥
never_memory true e = cc
never_memory false e = cc

refused_out : (answer : Answer) (cause : Cause) → Refused cause ≡ status_of answer → out_of answer ≡ []
refused_out (Ok output) cause e = absurd (never_refused output.exhausted cause e)
refused_out (Err stop) cause e = refl

memory_is : (answer : Answer) → NoMemory ≡ status_of answer → answer ≡ Err Memory
memory_is (Ok output) e = absurd (never_memory output.exhausted e)
memory_is (Err (Refusal cause text)) e = absurd cc
memory_is (Err Memory) e = refl

-- with a refusal or want of memory there is no text for `out`
pub silent_out : (answer : Answer) (out report : Sunk) (number : ℕ) → Writes answer out report number → IsSilent number → out_of answer ≡ []
silent_out answer out report number writes (inl (cause, is)) = by (status_or_failed answer out report number (Refused cause) writes is) where
  by : (Refused cause ≡ status_of answer) ⊎ (Refused cause ≡ WriteFailed) → out_of answer ≡ []
  by (inl e) = refused_out answer cause e
  by (inr e) = absurd cc
silent_out answer out report number writes (inr is) = by (status_or_failed answer out report number NoMemory writes is) where
  by : (NoMemory ≡ status_of answer) ⊎ (NoMemory ≡ WriteFailed) → out_of answer ≡ []
  by (inl e) = ap out_of (memory_is answer e)
  by (inr e) = absurd cc

-- with want of memory there is none for `report` either
pub silent_report : (answer : Answer) (out report : Sunk) (number : ℕ) → Writes answer out report number → number ≡ code NoMemory → report_of answer ≡ []
silent_report answer out report number writes is = by (status_or_failed answer out report number NoMemory writes is) where
  by : (NoMemory ≡ status_of answer) ⊎ (NoMemory ≡ WriteFailed) → report_of answer ≡ []
  by (inl e) = ap report_of (memory_is answer e)
  by (inr e) = absurd cc
