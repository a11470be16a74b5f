-- The rules on flags, and what a capture on an optional operation may not reach.
use Rattle.std.specs.Prelude.{ℕ, ◌==◌, Bool, true, false, not, ◌&&◌, ◌||◌, is_some, List, codes, Option, Some, None}
use Rattle.std.specs.Str.{bytes_eq}
use Rattle.pm_ops.specs.Names.{Name}
use Rattle.pm_ops.specs.declared.fault.PatternFault.{PatternFault}
use Rattle.pm_ops.specs.declared.fault.PatternKind.TheVariants.{BadFlag}
use Rattle.pm_places.specs.declared.span.Span.{Span}
use Rattle.pm_places.specs.Spans.{text_of}
use Rattle.pd_forms.specs.Trees.{Pattern, capture, predicate, operation, Patterns, nil, cons}
use Rattle.pd_pattern_names.specs.declared.known.Known.{Known}
use Rattle.pd_pattern_names.specs.declared.heads.Own.{Own}
use Rattle.pd_pattern_names.specs.declared.heads.Head.{Head}
use Rattle.pd_pattern_names.specs.Known.{broken}
use Rattle.pd_pattern_names.specs.Heads.{head_of, is_use, is_bare_use}

-- `c`, `C` and `s`, each at most once, and not both `c` and `C`
abbrev pub are_flags : Name → Bool
are_flags letters =
    bytes_eq letters (codes "c") || (bytes_eq letters (codes "C") || (bytes_eq letters (codes "s")
    || (bytes_eq letters (codes "cs") || (bytes_eq letters (codes "sc") || (bytes_eq letters (codes "Cs") || bytes_eq letters (codes "sC"))))))

-- flags other than `s` alone have a `c` or a `C`
abbrev pub commutes : Name → Bool
commutes letters = not (bytes_eq letters (codes "s"))

-- none stand on the use of a predicate, and `c` and `C` on two operands alone
abbrev pub are_bad_flags : Head → Name → ℕ → Bool
are_bad_flags head letters count = is_use head || (not (are_flags letters) || (commutes letters && not (count == 2)))

abbrev pub flags_fault : List ℕ → Head → Option Span → ℕ → Option PatternFault
flags_fault source head None count = None
flags_fault source head (Some at) count = broken (are_bad_flags head (text_of source at) count) BadFlag at

abbrev mutual
  -- A capture stands on the pattern or on one that is reached from it through operations with `?` alone, or one of these is the
  -- use of a predicate. A capture stands on itself.
  pub holds_capture : List ℕ → Known → Option Own → Pattern → Bool
  holds_capture source known own (capture c) = true
  holds_capture source known own (predicate at c) = is_some c || is_bare_use source known own (text_of source at)
  holds_capture source known own (operation at head c ps) =
      is_some c || (is_use (head_of source known own head) || (is_some head.marked && hold_capture source known own ps))

  -- that holds of one of these
  pub hold_capture : List ℕ → Known → Option Own → Patterns → Bool
  hold_capture source known own nil = false
  hold_capture source known own (cons p ps) = holds_capture source known own p || hold_capture source known own ps
