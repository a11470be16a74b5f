-- What the head of an operation is, what a bare name is, and the rules on both.
use Rattle.std.specs.Prelude.{ℕ, ◌-◌, ◌==◌, nat_lt, Bool, true, false, not, ◌&&◌, ◌||◌, is_some, is_none, List, [], ◌∷◌, length, take, drop, Option, Some, None, if◌then◌else◌}
use Rattle.std.specs.Str.{bytes_eq}
use Rattle.pm_ops.specs.Names.{Name}
use Rattle.pm_ops.specs.Predicates.{pred_named}
use Rattle.pm_ops.specs.declared.fault.PatternFault.{PatternFault}
use Rattle.pm_ops.specs.declared.fault.PatternKind.{PatternKind}
use Rattle.pm_ops.specs.declared.fault.PatternKind.TheVariants.{UnknownOperator, UnknownPredicate, BadArity}
use Rattle.pm_places.specs.declared.span.Span.{Span}
use Rattle.pm_places.specs.Spans.{text_of}
use Rattle.pd_forms.specs.declared.tree.HeadText.{HeadText}
use Rattle.pd_pattern_names.specs.declared.known.Known.{Known}
use Rattle.pd_pattern_names.specs.declared.heads.Own.{Own}
use Rattle.pd_pattern_names.specs.declared.heads.Head.{Head}
use Rattle.pd_pattern_names.specs.declared.heads.Head.TheVariants as heads
use Rattle.pd_pattern_names.specs.Known.{broken, Arity, has_case, operator_arity, parameters_of}

-- the pattern is a case of the predicate of this name
abbrev pub is_own : List ℕ → Option Own → Name → Bool
is_own source None name = false
is_own source (Some one) name = bytes_eq (text_of source one.name) name

-- `1` or `2`
abbrev pub is_group : List ℕ → Bool
is_group [] = false
is_group (digit ∷ rest) = digit == 49 || digit == 50

-- what an optional operation takes whose name ends in the number of its group
abbrev pub numbered_arity : List ℕ → Known → Name → Option Arity
numbered_arity source known name = if is_group (drop (length name - 1) name) then operator_arity source known (take (length name - 1) name) else None

abbrev pub operator_or : Option Arity → Head → Head
operator_or None other = other
operator_or (Some arity) other = heads.Operator arity

-- a predicate of the file with parameters
abbrev pub use_or : Option ℕ → Head → Head
use_or None other = other
use_or (Some count) other = if nat_lt 0 count then heads.Use count else other

-- the number of a group counts where a `?` stands
abbrev pub numbered_head : List ℕ → Known → Name → Bool → Head
numbered_head source known name marked = if marked then operator_or (numbered_arity source known name) heads.Unknown else heads.Unknown

-- a name that is no operation, identifier of a `for` or list as a whole
abbrev pub other_head : List ℕ → Known → Name → Bool → Head
other_head source known name marked = use_or (parameters_of source known.cases name) (numbered_head source known name marked)

abbrev pub head_named : List ℕ → Known → Option Own → Name → Bool → Head
head_named source known own name marked =
    if is_own source own name then heads.Itself else operator_or (operator_arity source known name) (other_head source known name marked)

-- what the head of an operation is
abbrev pub head_of : List ℕ → Known → Option Own → HeadText → Head
head_of source known own head = head_named source known own (text_of source head.name) (is_some head.marked)

abbrev pub is_use : Head → Bool
is_use (heads.Use count) = true
is_use head = false

-- a bare name is the use of a predicate of the file
abbrev pub is_bare_use : List ℕ → Known → Option Own → Name → Bool
is_bare_use source known own name = not (is_own source own name) && (is_none (pred_named name) && has_case source known.cases name)

-- something that takes so many operands has another number of them
abbrev pub differs : Arity → ℕ → Bool
differs None count = false
differs (Some asked) count = not (asked == count)

-- the own name of a predicate at a head in its case
abbrev pub own_kind : Option Own → PatternKind
own_kind None = UnknownOperator
own_kind (Some one) = if one.called then UnknownPredicate else UnknownOperator

-- the head is unknown, or has another number of operands than it takes
abbrev pub name_fault : Option Own → Head → Span → ℕ → Option PatternFault
name_fault own (heads.Operator arity) at count = broken (differs arity count) BadArity at
name_fault own (heads.Use asked) at count = broken (not (asked == count)) BadArity at
name_fault own heads.Itself at count = broken true (own_kind own) at
name_fault own heads.Unknown at count = broken true UnknownOperator at

-- a bare name that is no predicate of the language: one of a predicate with parameters lacks its arguments
abbrev pub other_use_fault : Option ℕ → Span → Option PatternFault
other_use_fault None at = broken true UnknownPredicate at
other_use_fault (Some count) at = broken (nat_lt 0 count) BadArity at

abbrev pub other_fault : List ℕ → Known → Span → Option PatternFault
other_fault source known at = other_use_fault (parameters_of source known.cases (text_of source at)) at

-- a bare name is neither a predicate of the language nor one above without parameters
abbrev pub bare_fault : List ℕ → Known → Option Own → Span → Option PatternFault
bare_fault source known own at =
    if is_own source own (text_of source at) then broken true UnknownPredicate at
    else if is_some (pred_named (text_of source at)) then None
    else other_fault source known at
