-- Tables: those of the code as tables of bytes, and what is known of a meaning that is found.
use Rattle.std.proofs.Common.{◌≡◌, ℕ, Bool, true, false, cond, List, [], ◌∷◌, Some, None, map, refl, sym, ap, ◌∙◌}
use Rattle.std.specs.Borrow.{Bor}
use Rattle.std.specs.Prelude.{option_map, find, ◌||◌}
use Rattle.std.specs.List.{list_all, list_any}
use Rattle.std.specs.Str.{bytes_eq, str_eq_ignore_ascii_case}
use Rattle.std.specs.Cmp.Lexicographic.{bytes_decides}
use Rattle.std.proofs.lemmas.Bool.{and_parts}
use Rattle.lexing.specs.Tables.{meaning_of, beside, beside_in_any_case, row_of_bytes}

meaning_rows : {X : Type 0} (test : List ℕ → Bool) (rows : List (Bor (List ℕ) × X))
    → meaning_of test (map row_of_bytes rows) ≡ option_map (λ row. row.1) (find (λ row. test row.0.now) rows)
meaning_rows test [] = refl
meaning_rows {X} test (row ∷ rows) = by (test row.0.now) (meaning_rows test rows) where
  by : (b : Bool) → meaning_of test (map row_of_bytes rows) ≡ option_map (λ row. row.1) (find (λ row. test row.0.now) rows)
      → option_map (λ (r : List ℕ × X). r.1) (cond b (Some (row_of_bytes row)) (find (λ r. test r.0) (map row_of_bytes rows))) ≡ option_map (λ row. row.1) (cond b (Some row) (find (λ row. test row.0.now) rows))
  by true e = refl
  by false e = e

pub beside_rows : {X : Type 0} (bytes : List ℕ) (rows : List (Bor (List ℕ) × X))
    → beside bytes (map row_of_bytes rows) ≡ option_map (λ row. row.1) (find (λ row. bytes_eq row.0.now bytes) rows)
beside_rows bytes rows = meaning_rows (λ spelling. bytes_eq spelling bytes) rows

pub any_case_rows : {X : Type 0} (bytes : List ℕ) (rows : List (Bor (List ℕ) × X))
    → beside_in_any_case bytes (map row_of_bytes rows) ≡ option_map (λ row. row.1) (find (λ row. str_eq_ignore_ascii_case row.0.now bytes) rows)
any_case_rows bytes rows = meaning_rows (λ spelling. str_eq_ignore_ascii_case spelling bytes) rows

-- what each row of a table has, each meaning that is found has
pub meaning_has : {X : Type 0} (q : X → Bool) (test : List ℕ → Bool) (table : List (List ℕ × X)) (x : X)
    → list_all (λ (row : List ℕ × X). q row.1) table ≡ true → meaning_of test table ≡ Some x → q x ≡ true
meaning_has q test [] x all e = absurd cc
meaning_has {X} q test (row ∷ table) x all e =
    let parts = and_parts (q row.1) (list_all (λ (row : List ℕ × X). q row.1) table) all in
    by (test row.0) parts.0 (meaning_has q test table x parts.1) e where
      by : (t : Bool) → q row.1 ≡ true → (meaning_of test table ≡ Some x → q x ≡ true)
          → option_map (λ (r : List ℕ × X). r.1) (cond t (Some row) (find (λ (r : List ℕ × X). test r.0) table)) ≡ Some x → q x ≡ true
      by true first later e = ap q (same row.1 x e) ∙ first where
        same : (y x : X) → Some y ≡ Some x → x ≡ y
        same y x e = cc
      by false first later e = later e

-- what each spelling of a table has, each text that is found has
pub beside_passes : {X : Type 0} (p : List ℕ → Bool) (table : List (List ℕ × X)) (bytes : List ℕ) (x : X) → beside bytes table ≡ Some x
    → list_all (λ (row : List ℕ × X). p row.0) table ≡ true → p bytes ≡ true
beside_passes p [] bytes x e h = absurd cc
beside_passes {X} p (row ∷ table) bytes x e h =
    let parts = and_parts (p row.0) (list_all (λ (row : List ℕ × X). p row.0) table) h in
    by (bytes_eq row.0 bytes) refl e parts.0 (λ e. beside_passes p table bytes x e parts.1) where
      by : (t : Bool) → bytes_eq row.0 bytes ≡ t
          → option_map (λ (r : List ℕ × X). r.1) (cond t (Some row) (find (λ (r : List ℕ × X). bytes_eq r.0 bytes) table)) ≡ Some x
          → p row.0 ≡ true → (beside bytes table ≡ Some x → p bytes ≡ true) → p bytes ≡ true
      by true same e first later = ap p (sym ((bytes_decides row.0 bytes).0 same)) ∙ first
      by false same e first later = later e

-- a text that is not found is none of the spellings
pub none_among : {X : Type 0} (word : List ℕ) (table : List (List ℕ × X)) → beside word table ≡ None
    → list_any (λ w. bytes_eq w word) (map (λ (row : List ℕ × X). row.0) table) ≡ false
none_among word [] h = refl
none_among {X} word (row ∷ table) h = by (bytes_eq row.0 word) (none_among word table) h where
  by : (t : Bool) → (beside word table ≡ None → list_any (λ w. bytes_eq w word) (map (λ (row : List ℕ × X). row.0) table) ≡ false)
      → option_map (λ (r : List ℕ × X). r.1) (cond t (Some row) (find (λ (r : List ℕ × X). bytes_eq r.0 word) table)) ≡ None
      → (t || list_any (λ w. bytes_eq w word) (map (λ (row : List ℕ × X). row.0) table)) ≡ false
  by true later h = absurd cc
  by false later h = later h
