-- What keeps a pattern from being expanded into its orders.
use Rattle.std.specs.Prelude.{ℕ, nat_lt, Bool, true, false, if◌then◌else◌, length, Option, Some, None, Result}
use Rattle.pm_ops.specs.declared.fault.PatternFault.{PatternFault}
use Rattle.pm_ops.specs.declared.fault.PatternKind.{PatternKind}
use Rattle.pm_ops.specs.declared.fault.PatternKind.TheVariants.{Memory, TooManyRows}
use Rattle.pm_places.specs.FirstFaults.{or_fault}
use Rattle.pm_places.specs.Judging as judging
use Rattle.pd_ast.specs.declared.pattern.Pat.{Pat}
use Rattle.commute_expand.specs.Marks.{first_wrong_mark}
use Rattle.commute_expand.specs.Orders.{orders}

-- More than 65,536 rows. A pattern doesn't know where its form begins, so the fault has no place:
-- who has the form puts it there.
abbrev pub rows_fault : PatternFault
rows_fault = record { kind = TooManyRows; at = 0; len = 0 }

abbrev pub too_many : ℕ → Option PatternFault
too_many count = if nat_lt 65536 count then Some rows_fault else None

-- a wrong mark comes before too many rows
abbrev pub commute_fault : Pat → Option PatternFault
commute_fault pattern = or_fault (first_wrong_mark pattern) (too_many (length (orders pattern)))

abbrev pub is_memory_kind : PatternKind → Bool
is_memory_kind Memory = true
is_memory_kind kind = false

-- exactly this fault is answered, or none, unless memory runs out
abbrev pub Judges : {X : Type 0} → Option PatternFault → Result X PatternFault → Type 0
Judges expected result = judging.Judges (λ (fault : PatternFault). is_memory_kind fault.kind) expected result
