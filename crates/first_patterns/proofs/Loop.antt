-- Reading forms one after the other, as a loop does.
use Rattle.std.proofs.Common.{◌≡◌, ℕ, suc, ◌+◌, ◌-◌, ◌<◌, ◌≤◌, false, eqb, List, [], ◌∷◌, ◌++◌, length, Option, Some, None, refl, sym, ap, ◌∙◌, append_assoc, arith}
use Rattle.std.proofs.lemmas.List.{append-nil, nil_from_length, length-append}
use Rattle.first_patterns.specs.declared.row.Row.{Row}
use Rattle.first_patterns.specs.FirstForm.{is_white}
use Rattle.first_patterns.specs.Reading.{◌>>=◌, front, past, row_at, rows_at, rows_of}
use Rattle.first_patterns.proofs.Runs.{parts}
use Rattle.first_patterns.proofs.RowLemmas.{row_parts}
use Rattle.first_patterns.proofs.RowsLemmas.{rows_none}

-- the rows so far, and those that are still read
abbrev pub with_front : List Row → Option (List Row) → Option (List Row)
with_front so_far read = read >>= λ rows. Some (so_far ++ rows)

with_none : (read : Option (List Row)) → with_front [] read ≡ read
with_none (Some rows) = refl
with_none None = refl

pub begins : (source : List ℕ) → with_front [] (rows_at (65536 - 0) (length source) (past is_white source)) ≡ rows_of source
unfolding rows_of
begins source = with_none (rows_at 65536 (length source) (past is_white source))

regroup : (so_far : List Row) (row : Row) (read : Option (List Row)) → with_front so_far (read >>= λ rows. Some (row ∷ rows)) ≡ with_front (so_far ++ row ∷ []) read
regroup so_far row (Some rows) = ap (λ (rs : List Row). Some rs) (sym (append_assoc so_far (row ∷ []) rows))
regroup so_far row None = refl

pub goes_on : (so_far : List Row) (limit i total : ℕ) (bytes : List ℕ) (row : Row) (behind : List ℕ) (all : Option (List Row)) → i < limit
    → eqb (length bytes) 0 ≡ false → row_at (total - length bytes) bytes ≡ Some (row, behind)
    → with_front so_far (rows_at (limit - i) total bytes) ≡ all → with_front (so_far ++ row ∷ []) (rows_at (limit - (i + 1)) total (past is_white behind)) ≡ all
unfolding rows_at
goes_on so_far limit i total bytes row behind all lt some read invariant =
    let k : limit - i ≡ suc (limit - (i + 1)) = omega arith in
    let one : with_front so_far (rows_at (limit - i) total bytes) ≡ with_front (so_far ++ row ∷ []) (rows_at (limit - (i + 1)) total (past is_white behind)) =
    rw (k, some, read) (regroup so_far row (rows_at (limit - (i + 1)) total (past is_white behind))) in
    sym one ∙ invariant

pub no_row : (so_far : List Row) (limit i total : ℕ) (bytes : List ℕ) (all : Option (List Row)) → i < limit
    → eqb (length bytes) 0 ≡ false → row_at (total - length bytes) bytes ≡ None
    → with_front so_far (rows_at (limit - i) total bytes) ≡ all → all ≡ None
unfolding rows_at
no_row so_far limit i total bytes all lt some read invariant =
    let k : limit - i ≡ suc (limit - (i + 1)) = omega arith in
    let one : with_front so_far (rows_at (limit - i) total bytes) ≡ None = rw (k, some, read) refl in
    sym invariant ∙ one

pub is_done : (so_far : List Row) (n total : ℕ) (bytes : List ℕ) (all : Option (List Row)) → length bytes ≡ 0
    → with_front so_far (rows_at n total bytes) ≡ all → all ≡ Some so_far
is_done so_far n total bytes all nothing invariant =
    let one : rows_at n total bytes ≡ Some [] = ap (rows_at n total) (nil_from_length bytes nothing) ∙ rows_none n total in
    let two : with_front so_far (rows_at n total bytes) ≡ Some so_far = rw one (ap (λ (rs : List Row). Some rs) (append-nil so_far)) in
    sym invariant ∙ two

pub too_many : (so_far : List Row) (limit i total : ℕ) (bytes : List ℕ) (all : Option (List Row)) → limit ≤ i
    → eqb (length bytes) 0 ≡ false → with_front so_far (rows_at (limit - i) total bytes) ≡ all → all ≡ None
unfolding rows_at
too_many so_far limit i total bytes all le some invariant =
    let k : limit - i ≡ 0 = omega arith in
    let one : with_front so_far (rows_at (limit - i) total bytes) ≡ None = rw (k, some) refl in
    sym invariant ∙ one

-- what is left gets no longer
pub shorter : (at : ℕ) (bytes : List ℕ) (x : Row × List ℕ) → row_at at bytes ≡ Some x → length (past is_white x.1) ≤ length bytes
shorter at bytes x e =
    let t = row_parts at bytes x e in
    let long : length bytes ≡ length t.form + length x.1 = ap length t.text ∙ length-append t.form x.1 in
    omega (arith, ap length (parts is_white x.1), length-append (front is_white x.1) (past is_white x.1))

pub at_most : (source : List ℕ) → length (past is_white source) ≤ length source
at_most source = omega (arith, ap length (parts is_white source), length-append (front is_white source) (past is_white source))
