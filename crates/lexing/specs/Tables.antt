-- Tables from spellings to what they mean.
use Rattle.std.specs.Prelude.{ℕ, Bool, Option, option_map, List, find}
use Rattle.std.specs.Borrow.{Bor}
use Rattle.std.specs.Str.{bytes_eq, str_eq_ignore_ascii_case}

-- what stands beside the first spelling that passes
abbrev pub meaning_of : {X : Type 0} → (List ℕ → Bool) → List (List ℕ × X) → Option X
meaning_of {X} test table = option_map (λ (row : List ℕ × X). row.1) (find (λ (row : List ℕ × X). test row.0) table)

-- what stands beside these bytes
abbrev pub beside : {X : Type 0} → List ℕ → List (List ℕ × X) → Option X
beside bytes table = meaning_of (λ spelling. bytes_eq spelling bytes) table

-- the same where small and capital letters count alike
abbrev pub beside_in_any_case : {X : Type 0} → List ℕ → List (List ℕ × X) → Option X
beside_in_any_case bytes table = meaning_of (λ spelling. str_eq_ignore_ascii_case spelling bytes) table

-- a row of the code, whose spelling is a text
abbrev pub row_of_bytes : {X : Type 0} → Bor (List ℕ) × X → List ℕ × X
row_of_bytes row = (row.0.now, row.1)
