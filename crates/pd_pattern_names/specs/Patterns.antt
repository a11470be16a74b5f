-- The first fault of a pattern, in the order of the text: names of heads and bare names, `?`, flags, captures, arguments.
use Rattle.std.specs.Prelude.{ℕ, suc, ◌==◌, Bool, true, false, not, ◌&&◌, ◌||◌, is_some, List, Option, Some, None, if◌then◌else◌}
use Rattle.pm_ops.specs.Names.{Name}
use Rattle.pm_ops.specs.declared.fault.PatternFault.{PatternFault}
use Rattle.pm_ops.specs.declared.fault.PatternKind.TheVariants.{BadFlag, BadArgument}
use Rattle.pm_places.specs.declared.span.Span.{Span}
use Rattle.pm_places.specs.FirstFaults.{or_fault}
use Rattle.pm_places.specs.Spans.{text_of}
use Rattle.pd_text.specs.declared.symbol.Capture.{Capture}
use Rattle.pd_forms.specs.declared.tree.HeadText.{HeadText}
use Rattle.pd_forms.specs.Trees.{Pattern, capture, predicate, operation, Patterns, nil, cons}
use Rattle.pd_pattern_names.specs.declared.known.Known.{Known}
use Rattle.pd_pattern_names.specs.declared.heads.Own.{Own}
use Rattle.pd_pattern_names.specs.declared.heads.Head.{Head}
use Rattle.pd_pattern_names.specs.declared.patterns.Stand.{Stand}
use Rattle.pd_pattern_names.specs.declared.patterns.Stand.TheVariants as stands
use Rattle.pd_pattern_names.specs.Known.{broken, is_free}
use Rattle.pd_pattern_names.specs.Heads.{head_of, is_use, name_fault, bare_fault}
use Rattle.pd_pattern_names.specs.Flags.{flags_fault, hold_capture}

abbrev pub count : Patterns → ℕ
count nil = 0
count (cons p ps) = suc (count ps)

-- `?`

-- `?` stands on operands of operations alone
abbrev pub refuses_mark : Stand → Bool
refuses_mark stands.Operand = false
refuses_mark stand = true

-- on the use of a predicate; not on an operand; without one operand; with a capture, where that operand holds one
abbrev pub is_bad_mark : List ℕ → Known → Option Own → Stand → Head → Option Capture → Patterns → Bool
is_bad_mark source known own stand head c ps =
    is_use head || (refuses_mark stand || (not (count ps == 1) || (is_some c && hold_capture source known own ps)))

abbrev pub mark_fault : Bool → Option Span → Option PatternFault
mark_fault is_bad None = None
mark_fault is_bad (Some at) = broken is_bad BadFlag at

-- a capture on the pattern of a `simplify`
abbrev pub capture_fault : Stand → Option Capture → Option PatternFault
capture_fault stands.OfSimplify (Some c) = broken true BadFlag c.at
capture_fault stand c = None

-- what stands in an operation before its operands: name, `?`, flags, capture
abbrev pub head_fault : List ℕ → Known → Option Own → Stand → HeadText → Option Capture → Patterns → Option PatternFault
head_fault source known own stand head c ps =
    or_fault (name_fault own (head_of source known own head) head.name (count ps))
    (or_fault (mark_fault (is_bad_mark source known own stand (head_of source known own head) c ps) head.marked)
    (or_fault (flags_fault source (head_of source known own head) head.label (count ps)) (capture_fault stand c)))

-- An argument that is no capture stands for a parameter that is not free: the fault is at its first token, which is the `(` of an
-- operation, before its head, and the name of a predicate, where an unknown one comes first.
abbrev pub fault_before : Bool → Pattern → Option PatternFault
fault_before free (operation at head c ps) = broken (not free) BadArgument at
fault_before free p = None

abbrev pub fault_after : Bool → Pattern → Option PatternFault
fault_after free (predicate at c) = broken (not free) BadArgument at
fault_after free p = None

abbrev mutual
  -- of a pattern that stands so
  pub pattern_fault : List ℕ → Known → Option Own → Stand → Pattern → Option PatternFault
  pattern_fault source known own stand (capture c) = None
  pattern_fault source known own stand (predicate at c) = bare_fault source known own at
  pattern_fault source known own stand (operation at head c ps) =
      or_fault (head_fault source known own stand head c ps)
      (if is_use (head_of source known own head) then arguments_fault source known own (text_of source head.name) 0 ps else operands_fault source known own ps)

  pub operands_fault : List ℕ → Known → Option Own → Patterns → Option PatternFault
  operands_fault source known own nil = None
  operands_fault source known own (cons p ps) = or_fault (pattern_fault source known own stands.Operand p) (operands_fault source known own ps)

  -- of the arguments of a predicate from a place on
  pub arguments_fault : List ℕ → Known → Option Own → Name → ℕ → Patterns → Option PatternFault
  arguments_fault source known own callee place nil = None
  arguments_fault source known own callee place (cons p ps) =
      or_fault (fault_before (is_free source known.cases callee place) p)
      (or_fault (pattern_fault source known own stands.Argument p)
      (or_fault (fault_after (is_free source known.cases callee place) p) (arguments_fault source known own callee (suc place) ps)))

-- of what stands below a head
abbrev pub below_fault : List ℕ → Known → Option Own → HeadText → Patterns → Option PatternFault
below_fault source known own head ps =
    if is_use (head_of source known own head) then arguments_fault source known own (text_of source head.name) 0 ps else operands_fault source known own ps
