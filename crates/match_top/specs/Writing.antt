-- How an answer is written: `out` whole, and then `report`. A write that fails ends it with its own status.
use Rattle.std.specs.Prelude.{◌≡◌, ◌⊎◌, ℕ, ◌<◌, List, length, take}
use Rattle.pm_io.specs.Causes.{Rose}
use Rattle.pm_io.specs.SinkState.{SinkState}
use Rattle.pm_io.specs.Taking.{followed_by}
use Rattle.match_top.specs.Answer.{Answer, status_of, out_of, report_of}
use Rattle.match_top.specs.Status.{code}
use Rattle.match_top.specs.declared.status.Status.TheVariants.{WriteFailed}

-- a sink before and after
pub record Sunk : Type 0 where
  pub old : SinkState
  pub new : SinkState

-- all of a text was taken
abbrev pub TookAll : Sunk → List ℕ → Type 0
TookAll sunk text = sunk.new.taken ≡ followed_by sunk.old.taken text

-- a front of the text was taken that lacks some, and the count rose
pub record TookFront (sunk : Sunk) (text : List ℕ) : Type 0 where
  pub count : ℕ
  pub short : count < length text
  pub front : sunk.new.taken ≡ followed_by sunk.old.taken (take count text)
  pub cause : Rose sunk.old.faults sunk.new.faults

-- both texts were taken whole, and the status is the answer's
pub record WroteAll (answer : Answer) (out report : Sunk) (number : ℕ) : Type 0 where
  pub out_whole : TookAll out (out_of answer)
  pub report_whole : TookAll report (report_of answer)
  pub status : number ≡ code (status_of answer)

-- `out` failed, and nothing more was written
pub record OutFailed (answer : Answer) (out report : Sunk) (number : ℕ) : Type 0 where
  pub out_front : TookFront out (out_of answer)
  pub report_stays : report.new ≡ report.old
  pub status : number ≡ code WriteFailed

-- `report` failed behind the whole of `out`
pub record ReportFailed (answer : Answer) (out report : Sunk) (number : ℕ) : Type 0 where
  pub out_whole : TookAll out (out_of answer)
  pub report_front : TookFront report (report_of answer)
  pub status : number ≡ code WriteFailed

abbrev pub Writes : Answer → Sunk → Sunk → ℕ → Type 0
Writes answer out report number = WroteAll answer out report number ⊎ (OutFailed answer out report number ⊎ ReportFailed answer out report number)
