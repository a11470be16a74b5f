-- The first row that is found is the least that holds.
use Rattle.std.proofs.Common.{◌≡◌, ℕ, zero, suc, ◌+◌, ◌-◌, ◌<◌, Bool, Option, Some, None, List, [], ◌∷◌, drop, slice_get, refl, sym, ap, subst, ◌∙◌, arith}
use Rattle.std.proofs.lemmas.Option.{same_Some, none-some, some_pair_parts}
use Rattle.pm_wide.specs.declared.operand.Operand.{Operand}
use Rattle.pattern_rows.specs.declared.row.Place.{Place}
use Rattle.pattern_rows.specs.declared.row.ProbeAt.{ProbeAt}
use Rattle.pattern_rows.specs.declared.row.TestRow.{TestRow}
use Rattle.pattern_rows.specs.declared.caps.Caps.{Caps}
use Rattle.pattern_rows.specs.Found.{found}
use Rattle.tree_matcher.specs.Scanning.{found_or, first_found, scanned, passed_by, IsLeast}

pub get_behind : {X : Type 0} (xs : List X) (n k : ℕ) → slice_get (drop n xs) k ≡ slice_get xs (n + k)
get_behind [] zero k = refl
get_behind [] (suc n) k = refl
get_behind (x ∷ xs) zero k = let e : k ≡ zero + k = omega arith in ap (slice_get (x ∷ xs)) e
get_behind (x ∷ xs) (suc n) k = let e : suc (n + k) ≡ suc n + k = omega arith in get_behind xs n k ∙ ap (slice_get (x ∷ xs)) e

module _ (holds : ProbeAt → Bool) (operand_at : Place → Option Operand) where
  -- a row of a list that holds, where none before it does
  pub record IsFirst (before : ℕ) (rows : List TestRow) (number : ℕ) (caps : Caps) : Type 0 where
    pub place : ℕ
    pub row : TestRow
    pub number_is : number ≡ suc (before + place)
    pub there : slice_get rows place ≡ Some row
    pub match_is : found holds operand_at row ≡ Some caps
    pub none_before : (k : ℕ) (other : TestRow) → k < place → slice_get rows k ≡ Some other → found holds operand_at other ≡ None

  later_first : (before : ℕ) (row : TestRow) (rows : List TestRow) (number : ℕ) (caps : Caps) → found holds operand_at row ≡ None → IsFirst (suc before) rows number caps → IsFirst before (row ∷ rows) number caps
  later_first before row rows number caps fails later = record {
    place = suc later.place;
    row = later.row;
    number_is = omega (arith, later.number_is);
    there = later.there;
    match_is = later.match_is;
    none_before = each;
  } where
    each : (k : ℕ) (other : TestRow) → k < suc later.place → slice_get (row ∷ rows) k ≡ Some other → found holds operand_at other ≡ None
    each zero other within there = subst (λ r. found holds operand_at r ≡ None) (same_Some row other there) fails
    each (suc k) other within there = later.none_before k other (omega arith) there

  first_of : (before : ℕ) (rows : List TestRow) (number : ℕ) (caps : Caps) → first_found holds operand_at before rows ≡ Some (number, caps) → IsFirst before rows number caps
  first_of before [] number caps is = absurd (none-some (number, caps) is)
  first_of before (row ∷ rows) number caps is =
      let rest = first_of (suc before) rows number caps in
      by_row (found holds operand_at row) refl rest is
    where
      by_row : (o : Option Caps) → found holds operand_at row ≡ o → (first_found holds operand_at (suc before) rows ≡ Some (number, caps) → IsFirst (suc before) rows number caps)
          → found_or (suc before) o (first_found holds operand_at (suc before) rows) ≡ Some (number, caps) → IsFirst before (row ∷ rows) number caps
      by_row None e rest is = later_first before row rows number caps e (rest is)
      by_row (Some c) e rest is =
          let parts = some_pair_parts (suc before) number c caps is in
          record {
            place = 0;
            row = row;
            number_is = omega (arith, parts.0);
            there = refl;
            match_is = e ∙ ap Some parts.1;
            none_before = λ k other within there. absurd (omega (arith, within));
          }

  pub none_holds : (before : ℕ) (rows : List TestRow) → first_found holds operand_at before rows ≡ None
      → (k : ℕ) (other : TestRow) → slice_get rows k ≡ Some other → found holds operand_at other ≡ None
  none_holds before [] is k other there = absurd (none-some other there)
  none_holds before (row ∷ rows) is k other there =
      let rest = none_holds (suc before) rows in
      by_row (found holds operand_at row) refl rest is k there
    where
      by_row : (o : Option Caps) → found holds operand_at row ≡ o → (first_found holds operand_at (suc before) rows ≡ None → (k : ℕ) (other : TestRow) → slice_get rows k ≡ Some other → found holds operand_at other ≡ None)
          → found_or (suc before) o (first_found holds operand_at (suc before) rows) ≡ None → (k : ℕ) → slice_get (row ∷ rows) k ≡ Some other → found holds operand_at other ≡ None
      by_row None e rest is zero there = subst (λ r. found holds operand_at r ≡ None) (same_Some row other there) e
      by_row None e rest is (suc k) there = rest is k other there
      by_row (Some c) e rest is k there = absurd (none-some (suc before, c) (sym is))

  pub scan_is_least : (rows : List TestRow) (after : Option ℕ) (number : ℕ) (caps : Caps) → scanned holds operand_at rows after ≡ Some (number, caps)
      → IsLeast holds operand_at rows (passed_by after) number caps
  scan_is_least rows after number caps is =
      let n = passed_by after in
      let one = first_of n (drop n rows) number caps is in
      record {
        place = n + one.place;
        row = one.row;
        number_is = one.number_is;
        above = omega (arith, one.number_is);
        there = sym (get_behind rows n one.place) ∙ one.there;
        match_is = one.match_is;
        least = λ k other above within there. one.none_before (k - n) other (omega arith)
            (get_behind rows n (k - n) ∙ (let e : n + (k - n) ≡ k = omega arith in ap (slice_get rows) e) ∙ there);
      }

  pub none_above : (rows : List TestRow) (after : Option ℕ) → scanned holds operand_at rows after ≡ None
      → (place : ℕ) (row : TestRow) → passed_by after < suc place → slice_get rows place ≡ Some row → found holds operand_at row ≡ None
  none_above rows after is place row above there =
      let n = passed_by after in
      none_holds n (drop n rows) is (place - n) row
      (get_behind rows n (place - n) ∙ (let e : n + (place - n) ≡ place = omega arith in ap (slice_get rows) e) ∙ there)
