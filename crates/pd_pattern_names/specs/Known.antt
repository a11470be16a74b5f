-- What is known at a place of a pattern file, and what a name is there. A name is known by its place in the source.
use Rattle.std.specs.Prelude.{ℕ, Bool, true, false, not, ◌&&◌, ◌||◌, is_some, List, [], ◌∷◌, length, find, slice_get, codes, Option, Some, None, if◌then◌else◌}
use Rattle.std.specs.List.{list_any, list_all}
use Rattle.std.specs.Str.{bytes_eq}
use Rattle.pm_ops.specs.Names.{Name, code_named}
use Rattle.pm_ops.specs.Codes.{arity_of}
use Rattle.pm_ops.specs.Predicates.{pred_named}
use Rattle.pm_ops.specs.declared.code.Code.{Code}
use Rattle.pm_ops.specs.declared.fault.PatternFault.{PatternFault}
use Rattle.pm_ops.specs.declared.fault.PatternKind.{PatternKind}
use Rattle.pm_places.specs.declared.span.Span.{Span}
use Rattle.pm_places.specs.Spans.{text_of}
use Rattle.cond_subset.specs.Syntax.{fault_at}
use Rattle.pd_pattern_names.specs.declared.known.Chosen.{Chosen}
use Rattle.pd_pattern_names.specs.declared.known.Case.{Case}
use Rattle.pd_pattern_names.specs.declared.known.Known.{Known}

-- a fault where a rule is broken
abbrev pub broken : Bool → PatternKind → Span → Option PatternFault
broken true kind at = Some (fault_at kind at)
broken false kind at = None

-- how many operands something takes: None where each number fits
abbrev pub Arity : Type 0
Arity = Option ℕ

-- the first of two that is there
abbrev pub or_else : {A : Type 0} → Option A → Option A → Option A
or_else None second = second
or_else (Some x) second = Some x

abbrev pub of_code : Option Code → Option Arity → Option Arity
of_code None other = other
of_code (Some code) other = Some (Some (arity_of code))

-- lists and identifiers of `for`s

abbrev pub is_chosen : List ℕ → List Chosen → Name → Bool
is_chosen source chosen name = list_any (λ (one : Chosen). bytes_eq (text_of source one.name) name) chosen

abbrev pub arity_of_chosen : Option Chosen → Option Arity
arity_of_chosen None = None
arity_of_chosen (Some one) = Some one.arity

-- the first of these of the name
abbrev pub first_named : List ℕ → List Chosen → Name → Option Chosen
first_named source chosen name = find (λ (one : Chosen). bytes_eq (text_of source one.name) name) chosen

abbrev pub arity_in : List ℕ → List Chosen → Name → Option Arity
arity_in source chosen name = arity_of_chosen (first_named source chosen name)

-- what an entry of a list takes, if it is an operation, `null` or a list above
abbrev pub entry_arity : List ℕ → List Chosen → Name → Option Arity
entry_arity source lists name = of_code (code_named name) (if bytes_eq name (codes "null") then Some None else arity_in source lists name)

-- what an operation, an identifier of a `for` round the place or a list above takes
abbrev pub operator_arity : List ℕ → Known → Name → Option Arity
operator_arity source known name = of_code (code_named name) (or_else (arity_in source known.choices name) (arity_in source known.lists name))

-- predicates of the file

abbrev pub has_case : List ℕ → List Case → Name → Bool
has_case source cases name = list_any (λ (one : Case). bytes_eq (text_of source one.name) name) cases

-- how many parameters the predicate has: as many as its first case
abbrev pub parameters_of : List ℕ → List Case → Name → Option ℕ
parameters_of source [] name = None
parameters_of source (one ∷ cases) name = if bytes_eq (text_of source one.name) name then Some (length one.free) else parameters_of source cases name

abbrev pub or_true : Option Bool → Bool
or_true None = true
or_true (Some flag) = flag

abbrev pub flag_at : List Bool → ℕ → Bool
flag_at flags place = or_true (slice_get flags place)

-- the parameter at this place is free in each case of the predicate
abbrev pub is_free : List ℕ → List Case → Name → ℕ → Bool
is_free source cases name place = list_all (λ (one : Case). not (bytes_eq (text_of source one.name) name) || flag_at one.free place) cases

-- a form above uses the predicate
abbrev pub is_used : List ℕ → Known → Name → Bool
is_used source known name = list_any (λ at. bytes_eq (text_of source at) name) known.used

-- names that are taken

-- an operation, a predicate of the language, a list or an identifier of a `for` has the name
abbrev pub is_reserved : List ℕ → Known → Name → Bool
is_reserved source known name =
    is_some (code_named name) || (is_some (pred_named name) || (is_chosen source known.lists name || is_chosen source known.choices name))

-- something has the name already: a further case has that of cases above
abbrev pub is_taken : List ℕ → Known → Name → Bool → Bool
is_taken source known name of_case = is_reserved source known name || (not of_case && has_case source known.cases name)
