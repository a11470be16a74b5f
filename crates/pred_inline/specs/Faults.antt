-- What keeps a row or a case from being inlined.
use Rattle.std.specs.Prelude.{ℕ, nat_lt, if◌then◌else◌, List, length, map, Option, Some, None}
use Rattle.pm_ops.specs.declared.fault.PatternFault.{PatternFault}
use Rattle.pm_ops.specs.declared.fault.PatternKind.TheVariants.{TooManyCaptures, TooManyNodes, TooManyRows}
use Rattle.pm_places.specs.FirstFaults.{first_fault, or_fault}
use Rattle.pd_ast.specs.declared.form.Row.{Row}
use Rattle.pd_ast.specs.declared.pattern.Pat.{Pat}
use Rattle.pattern_uses.specs.Counts.{capture_count, operations}
use Rattle.pred_inline.specs.Inlined.{case_by, cases_of_uses, choices, row_by}
use Rattle.pred_inline.specs.declared.case.Case.{Case}
use Rattle.pred_inline.specs.declared.case.Predicate.{Predicate}

-- more than 32 captures, or more than 32 operations, at the `(` of the form
abbrev pub captures_fault : ℕ → ℕ → Option PatternFault
captures_fault at count =
    if nat_lt 32 count then Some (record { kind = TooManyCaptures; at = at; len = 1 }) else None

abbrev pub operations_fault : ℕ → ℕ → Option PatternFault
operations_fault at count =
    if nat_lt 32 count then Some (record { kind = TooManyNodes; at = at; len = 1 }) else None

abbrev pub limit_fault : ℕ → Pat → Option PatternFault
limit_fault at pattern =
    or_fault (captures_fault at (capture_count pattern))
    (operations_fault at (operations pattern))

-- more than 65,536 choices
abbrev pub many_fault : ℕ → ℕ → Option PatternFault
many_fault at count =
    if nat_lt 65536 count then Some (record { kind = TooManyRows; at = at; len = 1 }) else None

-- the first row or case by these choices that breaks a limit
abbrev pub rows_limit : Row → ℕ → List (List Case) → Option PatternFault
rows_limit row conditions chosen =
    first_fault (map (λ (one : Row). limit_fault row.at one.pattern) (map (row_by row conditions) chosen))

abbrev pub cases_limit : Case → ℕ → List (List Case) → Option PatternFault
cases_limit case conditions chosen =
    first_fault (map (λ (one : Case). limit_fault case.row.at one.row.pattern) (map (case_by case conditions) chosen))

-- too many choices, then the first row or case that breaks a limit
abbrev pub rows_fault : List Predicate → Row → ℕ → Option PatternFault
rows_fault preds row conditions =
    or_fault (many_fault row.at (length (choices (cases_of_uses preds row.pattern))))
    (rows_limit row conditions (choices (cases_of_uses preds row.pattern)))

abbrev pub cases_fault : List Predicate → Case → ℕ → Option PatternFault
cases_fault preds case conditions =
    or_fault (many_fault case.row.at (length (choices (cases_of_uses preds case.row.pattern))))
    (cases_limit case conditions (choices (cases_of_uses preds case.row.pattern)))
