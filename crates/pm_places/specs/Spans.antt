-- Spans: which bytes of a source they are.
use Rattle.std.specs.Prelude.{ℕ, ◌+◌, ◌-◌, List, take, drop}
use Rattle.pm_places.specs.declared.span.Span.{Span}

-- the place of the n bytes from `at` on
abbrev pub place : ℕ → ℕ → Span
place at n = record { from = at; to = at + n }

-- the bytes of a place
abbrev pub text_of : List ℕ → Span → List ℕ
text_of source span = take (span.to - span.from) (drop span.from source)
