-- Where a pattern uses predicates of the file, and which parameters of a case are free.
use Rattle.std.specs.Prelude.{ℕ, suc, Bool, true, false, not, ◌&&◌, ◌||◌, List, [], ◌∷◌, ◌++◌, Option, Some, None, if◌then◌else◌}
use Rattle.pm_ops.specs.Names.{Name}
use Rattle.pm_places.specs.declared.span.Span.{Span}
use Rattle.pm_places.specs.Spans.{text_of}
use Rattle.pd_text.specs.declared.symbol.Capture.{Capture}
use Rattle.pd_forms.specs.declared.tree.HeadText.{HeadText}
use Rattle.pd_forms.specs.Trees.{Pattern, capture, predicate, operation, Patterns, nil, cons}
use Rattle.pd_pattern_names.specs.declared.known.Case.{Case}
use Rattle.pd_pattern_names.specs.declared.known.Known.{Known}
use Rattle.pd_pattern_names.specs.declared.heads.Own.{Own}
use Rattle.pd_pattern_names.specs.Known.{is_free}
use Rattle.pd_pattern_names.specs.Heads.{head_of, is_use, is_bare_use}
use Rattle.pd_pattern_names.specs.Captures.{is_bound}

abbrev pub if_used : Bool → Span → List Span
if_used true at = at ∷ []
if_used false at = []

abbrev mutual
  -- the names by which a pattern uses predicates of the file
  pub uses_of : List ℕ → Known → Option Own → Pattern → List Span
  uses_of source known own (capture c) = []
  uses_of source known own (predicate at c) = if_used (is_bare_use source known own (text_of source at)) at
  uses_of source known own (operation at head c ps) = if_used (is_use (head_of source known own head)) head.name ++ uses_among source known own ps

  pub uses_among : List ℕ → Known → Option Own → Patterns → List Span
  uses_among source known own nil = []
  uses_among source known own (cons p ps) = uses_of source known own p ++ uses_among source known own ps

-- A parameter of a case is free where each place of it is a plain capture, and each of these that is an argument of a predicate stands
-- there for a free parameter.

-- the capture of a pattern is this parameter
abbrev pub stands_on : List ℕ → Span → Option Capture → Bool
stands_on source parameter None = false
stands_on source parameter (Some c) = is_bound source (c.at ∷ []) parameter

-- the pattern is this parameter as a plain capture
abbrev pub is_plain : List ℕ → Span → Pattern → Bool
is_plain source parameter (capture c) = stands_on source parameter (Some c)
is_plain source parameter p = false

-- among these arguments, from a place on, it stands for free parameters alone
abbrev pub stands_for_free : List ℕ → List Case → Span → Name → ℕ → Patterns → Bool
stands_for_free source cases parameter callee place nil = true
stands_for_free source cases parameter callee place (cons p ps) =
    (not (is_plain source parameter p) || is_free source cases callee place) && stands_for_free source cases parameter callee (suc place) ps

-- the same of the operands of a head: those of an operation are no arguments
abbrev pub is_passed_free : List ℕ → Known → Option Own → Span → HeadText → Patterns → Bool
is_passed_free source known own parameter head ps =
    if is_use (head_of source known own head) then stands_for_free source known.cases parameter (text_of source head.name) 0 ps else true

abbrev mutual
  pub is_free_in : List ℕ → Known → Option Own → Span → Pattern → Bool
  is_free_in source known own parameter (capture c) = true
  is_free_in source known own parameter (predicate at c) = not (stands_on source parameter c)
  is_free_in source known own parameter (operation at head c ps) =
      not (stands_on source parameter c) && (is_passed_free source known own parameter head ps && is_free_among source known own parameter ps)

  pub is_free_among : List ℕ → Known → Option Own → Span → Patterns → Bool
  is_free_among source known own parameter nil = true
  is_free_among source known own parameter (cons p ps) = is_free_in source known own parameter p && is_free_among source known own parameter ps
