-- Rows that are sorted by version, each taken once.
use Rattle.std.proofs.Common.{◌≡◌, ℕ, zero, suc, ◌+◌, ◌<◌, ◌≤◌, true, false, List, [], ◌∷◌, ◌++◌, length, get_or, drop, drop-cons, add-one, Option, Some, None, refl, sym, ap, ◌∙◌, append_assoc, arith}
use Rattle.std.specs.Prelude.{◌==◌}
use Rattle.std.proofs.lemmas.List.{append-nil}
use Rattle.std.proofs.lemmas.Bool.{eq-eqb, ne_eqb}
use Rattle.first_gimple.specs.Meaning.{version_of}
use Rattle.first_gimple.proofs.Distinct.{any_default}
use Rattle.gim_ast.specs.declared.function.NameRow.{NameRow}
use Rattle.first_gimple.specs.Tests.{same_row, put_row, before_next, merged}

-- what was merged before, and what is merged of the rest
abbrev pub behind : List NameRow → Option (List NameRow) → Option (List NameRow)
behind front None = None
behind front (Some rows) = Some (front ++ rows)

row_at : (rows : List NameRow) (at : ℕ) (row : NameRow) → at < length rows → row ≡ get_or rows at row → drop at rows ≡ row ∷ drop (at + 1) rows
row_at rows at row lt is = rw add-one (drop-cons rows at row lt ∙ ap (λ r. r ∷ drop (suc at) rows) (sym is))

put_behind : (front : List NameRow) (row : NameRow) (read : Option (List NameRow)) → behind front (put_row row read) ≡ behind (front ++ row ∷ []) read
put_behind front row None = refl
put_behind front row (Some rows) = ap Some (simp append_assoc)

pub merge_ends : (front rows : List NameRow) (at : ℕ) → length rows ≤ at → behind front (merged (drop at rows)) ≡ Some front
unfolding merged
merge_ends front [] zero le = ap Some (append-nil front)
merge_ends front [] (suc at) le = ap Some (append-nil front)
merge_ends front (row ∷ rows) zero le = absurd (omega arith)
merge_ends front (row ∷ rows) (suc at) le = merge_ends front rows at (omega arith)

-- the last row
pub merge_last : (front rows : List NameRow) (at : ℕ) (row : NameRow) → at < length rows → row ≡ get_or rows at row → length rows ≤ at + 1
    → behind (front ++ row ∷ []) (merged (drop (at + 1) rows)) ≡ behind front (merged (drop at rows))
unfolding merged
merge_last front rows at row lt is le =
    sym (ap (λ rest. behind front (merged rest)) (row_at rows at row lt is) ∙ alone (drop (at + 1) rows) (past rows (at + 1) le)) where
      past : (rs : List NameRow) (i : ℕ) → length rs ≤ i → drop i rs ≡ []
      past [] zero le = refl
      past [] (suc i) le = refl
      past (r ∷ rs) zero le = absurd (omega arith)
      past (r ∷ rs) (suc i) le = past rs i (omega arith)

      alone : (rest : List NameRow) → rest ≡ [] → behind front (before_next row rest (merged rest)) ≡ behind (front ++ row ∷ []) (merged rest)
      alone rest e = rw e (put_behind front row (Some []))

-- a row before one of another version
pub merge_put : (front rows : List NameRow) (at : ℕ) (row next : NameRow) → at + 1 < length rows → row ≡ get_or rows at row → next ≡ get_or rows (at + 1) next → (row.version == next.version) ≡ false
    → behind (front ++ row ∷ []) (merged (drop (at + 1) rows)) ≡ behind front (merged (drop at rows))
unfolding merged
merge_put front rows at row next lt is next_is other =
    sym (ap (λ rest. behind front (merged rest)) (row_at rows at row (omega arith) is) ∙ put (drop (at + 1) rows) (row_at rows (at + 1) next lt next_is)) where
      put : (rest : List NameRow) → rest ≡ next ∷ drop ((at + 1) + 1) rows → behind front (before_next row rest (merged rest)) ≡ behind (front ++ row ∷ []) (merged rest)
      put rest e = rw (e, other) (put_behind front row (before_next next (drop ((at + 1) + 1) rows) (merged (drop ((at + 1) + 1) rows))))

-- a row before the same one
pub merge_skip : (front rows : List NameRow) (at : ℕ) (row next : NameRow) → at + 1 < length rows → row ≡ get_or rows at row → next ≡ get_or rows (at + 1) next → (row.version == next.version) ≡ true → same_row row next ≡ true
    → behind front (merged (drop (at + 1) rows)) ≡ behind front (merged (drop at rows))
unfolding merged
merge_skip front rows at row next lt is next_is one same =
    sym (ap (λ rest. behind front (merged rest)) (row_at rows at row (omega arith) is) ∙ skip (drop (at + 1) rows) (row_at rows (at + 1) next lt next_is)) where
      skip : (rest : List NameRow) → rest ≡ next ∷ drop ((at + 1) + 1) rows → behind front (before_next row rest (merged rest)) ≡ behind front (merged rest)
      skip rest e = rw (e, same, one) refl

-- a row before another one of its version
pub merge_refuses : (front rows : List NameRow) (at : ℕ) (row next : NameRow) → at + 1 < length rows → row ≡ get_or rows at row → next ≡ get_or rows (at + 1) next → (row.version == next.version) ≡ true → same_row row next ≡ false
    → behind front (merged (drop at rows)) ≡ None
unfolding merged
merge_refuses front rows at row next lt is next_is one other =
    ap (λ rest. behind front (merged rest)) (row_at rows at row (omega arith) is) ∙ refuse (drop (at + 1) rows) (row_at rows (at + 1) next lt next_is) where
      refuse : (rest : List NameRow) → rest ≡ next ∷ drop ((at + 1) + 1) rows → behind front (before_next row rest (merged rest)) ≡ None
      refuse rest e = rw (e, other, one) refl

pub one_version : (rows : List NameRow) (i : ℕ) (row n m : NameRow) → i < length rows → m ≡ get_or rows i m → (get_or rows i n).version ≡ row.version → (row.version == m.version) ≡ true
one_version rows i row n m lt is one =
    let e : row.version ≡ m.version = sym one ∙ ap version_of (any_default rows i n m lt ∙ sym is) in
    eq-eqb row.version m.version e

pub other_version : (rows : List NameRow) (i : ℕ) (row n : NameRow) → n ≡ get_or rows i n → ((get_or rows i n).version ≡ row.version → ⊥) → (row.version == n.version) ≡ false
other_version rows i row n is other = ne_eqb row.version n.version (λ e. other (ap version_of (sym is) ∙ sym e))
