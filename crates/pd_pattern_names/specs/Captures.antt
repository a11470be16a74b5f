-- The captures of a pattern, by their names, and its operations.
use Rattle.std.specs.Prelude.{ℕ, suc, ◌+◌, ◌==◌, Bool, List, [], ◌∷◌, ◌++◌, Option, Some, None, if◌then◌else◌}
use Rattle.std.specs.List.{list_any}
use Rattle.std.specs.Str.{bytes_eq}
use Rattle.pm_ops.specs.Names.{Name}
use Rattle.pm_places.specs.declared.span.Span.{Span}
use Rattle.pm_places.specs.Spans.{text_of}
use Rattle.pd_text.specs.declared.symbol.Capture.{Capture}
use Rattle.pd_forms.specs.Trees.{Pattern, capture, predicate, operation, Patterns, nil, cons}
use Rattle.pd_pattern_names.specs.declared.known.Known.{Known}
use Rattle.pd_pattern_names.specs.declared.heads.Own.{Own}
use Rattle.pd_pattern_names.specs.declared.heads.Head.{Head}
use Rattle.pd_pattern_names.specs.Heads.{head_of, is_use}

-- a name without a `@` before it
abbrev pub after_mark : List ℕ → List ℕ
after_mark [] = []
after_mark (byte ∷ name) = if byte == 64 then name else byte ∷ name

-- the name of a capture, without its `@` or `@@`
abbrev pub capture_name : List ℕ → Span → Name
capture_name source at = after_mark (after_mark (text_of source at))

-- one of these captures has the name of this one
abbrev pub is_bound : List ℕ → List Span → Span → Bool
is_bound source captures at = list_any (λ one. bytes_eq (capture_name source one) (capture_name source at)) captures

-- how many names these captures have: those are counted whose name none after them has
abbrev pub count_names : List ℕ → List Span → ℕ
count_names source [] = 0
count_names source (at ∷ captures) = if is_bound source captures at then count_names source captures else suc (count_names source captures)

abbrev pub of_capture : Option Capture → List Span
of_capture None = []
of_capture (Some c) = c.at ∷ []

abbrev mutual
  -- the places of the captures, in the order of the text
  pub captures_of : Pattern → List Span
  captures_of (capture c) = c.at ∷ []
  captures_of (predicate at c) = of_capture c
  captures_of (operation at head c ps) = of_capture c ++ captures_among ps

  pub captures_among : Patterns → List Span
  captures_among nil = []
  captures_among (cons p ps) = captures_of p ++ captures_among ps

-- the use of a predicate is no operation
abbrev pub counted : Head → ℕ
counted head = if is_use head then 0 else 1

abbrev mutual
  -- how many operations a pattern has
  pub nodes_of : List ℕ → Known → Option Own → Pattern → ℕ
  nodes_of source known own (capture c) = 0
  nodes_of source known own (predicate at c) = 0
  nodes_of source known own (operation at head c ps) = counted (head_of source known own head) + nodes_among source known own ps

  pub nodes_among : List ℕ → Known → Option Own → Patterns → ℕ
  nodes_among source known own nil = 0
  nodes_among source known own (cons p ps) = nodes_of source known own p + nodes_among source known own ps
