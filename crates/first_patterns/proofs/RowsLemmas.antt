-- A whole file: the rows that are read are those that it spells, and the rows that it spells are read.
use Rattle.std.proofs.Common.{◌≡◌, ◌≢◌, ℕ, zero, suc, ◌+◌, ◌-◌, ◌≤◌, Bool, true, false, cond, eqb, List, [], ◌∷◌, ◌++◌, length, Option, Some, refl, sym, ap, subst, ◌∙◌, append_assoc, inl, inr, arith}
use Rattle.std.specs.Prelude.{◌⊎◌}
use Rattle.std.specs.List.{AllPass}
use Rattle.std.proofs.lemmas.Bool.{eqb-true}
use Rattle.std.proofs.lemmas.List.{nil_from_length, length-append, append-nil}
use Rattle.std.proofs.lemmas.List.Elements.{All-nil, All-append}
use Rattle.first_patterns.specs.declared.row.Row.{Row}
use Rattle.first_patterns.specs.FirstForm.{is_white, Gap, SpellsRows, SpellsFile}
use Rattle.first_patterns.specs.Reading.{past, row_at, rows_at, rows_of}
use Rattle.first_patterns.proofs.Runs.{Stops, parts, past_again}
use Rattle.first_patterns.proofs.TokenLemmas.{bind_some, guard_some, some_is, has_some, gap_of}
use Rattle.first_patterns.proofs.RowLemmas.{row_parts, row_again}

-- white space before rows, which moves them on
gap_before : (gap : Gap) (at : ℕ) (rows : List Row) (text : List ℕ) → SpellsRows (at + length gap.bytes) rows text → SpellsRows at rows (gap.bytes ++ text)
gap_before gap at [] text s = All-append (λ b. is_white b ≡ true) gap.bytes text gap.white s
gap_before gap at (row ∷ rows) text (own, form, rest, is, place, spells, more) =
    let both : Gap = record { bytes = gap.bytes ++ own.bytes; white = All-append (λ b. is_white b ≡ true) gap.bytes own.bytes gap.white own.white } in
    let long = length-append gap.bytes own.bytes in
    let same : at + length gap.bytes + length own.bytes + length form ≡ at + length both.bytes + length form = omega arith in (
      both,
      form,
      rest,
      ap (λ (xs : List ℕ). gap.bytes ++ xs) is ∙ sym (append_assoc gap.bytes own.bytes (form ++ rest)),
      omega arith,
      spells,
      subst (λ (k : ℕ). SpellsRows k rows rest) same more,
    )

abbrev no_gap : Gap
no_gap = record { bytes = []; white = All-nil (λ b. is_white b ≡ true) }

-- ---- what is read is spelled so

at_end : (b : Bool) (r : Option (List Row)) (rows : List Row) → cond b (Some []) r ≡ Some rows → ((b ≡ true) × ([] ≡ rows)) ⊎ ((b ≡ false) × (r ≡ Some rows))
at_end true r rows e = inl (refl, cc)
at_end false r rows e = inr (refl, e)

-- nothing stands there
ended : (at n : ℕ) (bytes : List ℕ) (rows : List Row) → eqb (length bytes) 0 ≡ true → [] ≡ rows → SpellsRows at rows bytes × (length rows ≤ n)
ended at n bytes rows nothing none =
    let no_bytes : [] ≡ bytes = sym (nil_from_length bytes (eqb-true _ _ nothing)) in
    let white : AllPass is_white bytes = subst (λ (xs : List ℕ). AllPass is_white xs) no_bytes (All-nil (λ b. is_white b ≡ true)) in
    let few : length {A = Row} [] ≤ n = omega arith in
    subst (λ (rs : List Row). SpellsRows at rs bytes × (length rs ≤ n)) none (white, few)

rows_parts : (n total at : ℕ) (bytes : List ℕ) (rows : List Row) → at + length bytes ≡ total → rows_at n total bytes ≡ Some rows → SpellsRows at rows bytes × (length rows ≤ n)
unfolding rows_at
rows_parts zero total at bytes rows whole e =
    let g = guard_some (eqb (length bytes) 0) [] rows e in
    ended at zero bytes rows g.0 g.1
rows_parts (suc n) total at bytes rows whole e =
    elim (at_end (eqb (length bytes) 0) _ rows e) [
      | inl w ↦ ended at (suc n) bytes rows w.0 w.1
      | inr w ↦
          let a = bind_some (row_at (total - length bytes) bytes) _ rows w.1 in
          let row = a.0.0 in
          let rest = a.0.1 in
          let b = bind_some (rows_at n total (past is_white rest)) _ rows a.2 in
          let gap = gap_of rest in
          let t = row_parts (total - length bytes) bytes a.0 a.1 in
          let bytes_long : length bytes ≡ length t.form + length rest = ap length t.text ∙ length-append t.form rest in
          let rest_long : length rest ≡ length gap.bytes + length (past is_white rest) = ap length (parts is_white rest) ∙ length-append gap.bytes (past is_white rest) in
          let there : at + length {A = ℕ} [] + length t.form + length gap.bytes + length (past is_white rest) ≡ total = omega arith in
          let more = rows_parts n total (at + length {A = ℕ} [] + length t.form + length gap.bytes) (past is_white rest) b.0 there b.1 in
          let behind : SpellsRows (at + length {A = ℕ} [] + length t.form) b.0 rest =
          subst (λ (xs : List ℕ). SpellsRows (at + length {A = ℕ} [] + length t.form) b.0 xs) (sym (parts is_white rest)) (gap_before gap (at + length {A = ℕ} [] + length t.form) b.0 (past is_white rest) more.0) in
          let place : row.at ≡ at + length {A = ℕ} [] = let p = t.place in omega arith in
          let few : length (row ∷ b.0) ≤ suc n = let f = more.1 in omega arith in
          subst (λ (rs : List Row). SpellsRows at rs bytes × (length rs ≤ suc n)) (some_is (row ∷ b.0) rows b.2) ((no_gap, t.form, rest, t.text, place, t.spells, behind), few)
    ]

pub file_is_spelled : (source : List ℕ) (rows : List Row) → rows_of source ≡ Some rows → SpellsFile rows source
unfolding rows_of
file_is_spelled source rows e =
    let gap = gap_of source in
    let long : length source ≡ length gap.bytes + length (past is_white source) = ap length (parts is_white source) ∙ length-append gap.bytes (past is_white source) in
    let read = rows_parts 65536 (length source) (0 + length gap.bytes) (past is_white source) rows (omega arith) e in
    record {
      spells = subst (λ (xs : List ℕ). SpellsRows 0 rows xs) (sym (parts is_white source)) (gap_before gap 0 rows (past is_white source) read.0);
      few = read.1;
    }

-- ---- what is spelled so is read

past_all : (text : List ℕ) → AllPass is_white text → past is_white text ≡ []
past_all text white = ap (past is_white) (sym (append-nil text)) ∙ past_again is_white text [] white tt

pub rows_none : (n total : ℕ) → rows_at n total [] ≡ Some []
unfolding rows_at
rows_none zero total = refl
rows_none (suc n) total = refl

cons_is_some : (x : ℕ) (xs : List ℕ) → (x ∷ xs) ≢ []
cons_is_some x xs e = absurd cc

rows_again : (rows : List Row) (n total at : ℕ) (text : List ℕ) → at + length text ≡ total → length rows ≤ n → SpellsRows at rows text → rows_at n total (past is_white text) ≡ Some rows
unfolding rows_at
rows_again [] n total at text whole few s = ap (rows_at n total) (past_all text s) ∙ rows_none n total
rows_again (row ∷ rows) zero total at text whole few s = absurd (omega arith)
rows_again (row ∷ rows) (suc n) total at text whole few (gap, form, rest, is, place, spells, more) =
    let opens : Stops is_white (form ++ rest) = subst (λ (xs : List ℕ). Stops is_white (xs ++ rest)) (sym spells.text) refl in
    let some : form ++ rest ≢ [] = subst (λ (xs : List ℕ). xs ++ rest ≢ []) (sym spells.text) (cons_is_some _ _) in
    let there : past is_white text ≡ form ++ rest = ap (past is_white) is ∙ past_again is_white gap.bytes (form ++ rest) gap.white opens in
    let text_long : length text ≡ length gap.bytes + length (form ++ rest) = ap length is ∙ length-append gap.bytes (form ++ rest) in
    let form_long = length-append form rest in
    let at_is : total - length (form ++ rest) ≡ row.at = omega arith in
    let go_on = rows_again rows n total (at + length gap.bytes + length form) rest (omega arith) (omega arith) more in
    ap (rows_at (suc n) total) there ∙ rw (has_some (form ++ rest) some, at_is, row_again row form rest spells, go_on) refl

pub spelled_is_read : (source : List ℕ) (rows : List Row) → SpellsFile rows source → rows_of source ≡ Some rows
unfolding rows_of
spelled_is_read source rows s = rows_again rows 65536 (length source) 0 source (omega arith) s.few s.spells
