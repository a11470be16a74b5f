-- One round of each loop of a scan.
use Rattle.std.proofs.Common.{◌≡◌, ℕ, zero, suc, ◌+◌, ◌<◌, Bool, true, ◌&&◌, cond, Option, Some, None, List, [], ◌∷◌, length, take, drop, get_or, refl, sym, ap, ◌∙◌, arith}
use Rattle.std.specs.Prelude.{is_some}
use Rattle.std.specs.List.{list_all}
use Rattle.std.proofs.lemmas.Bool.{and_parts, and_from}
use Rattle.pm_ops.specs.Names.{Name}
use Rattle.pm_wide.specs.declared.operand.Operand.{Operand}
use Rattle.pattern_rows.proofs.Lists.{left_at}
use Rattle.pattern_rows.specs.Counting.{ticked, counted}
use Rattle.pattern_rows.specs.declared.caps.Caps.{Caps}
use Rattle.pattern_rows.specs.declared.row.Place.{Place}
use Rattle.pattern_rows.specs.declared.row.ProbeAt.{ProbeAt}
use Rattle.pattern_rows.specs.declared.row.TestRow.{TestRow}
use Rattle.pattern_rows.specs.Found.{found, operands_of}
use Rattle.tree_matcher.specs.Looks.{asked, looks, looks_in, unless_found}
use Rattle.tree_matcher.specs.Scanning.{first_found, found_or, fits_caps}
use Rattle.tree_matcher.proofs.Counts.{counted_sum}

pub all_left : {X : Type 0} (p : X → Bool) (xs : List X) (n : ℕ) → list_all p xs ≡ true → list_all p (drop n xs) ≡ true
all_left p xs zero all = all
all_left p [] (suc n) all = refl
all_left p (x ∷ xs) (suc n) all = all_left p xs n (and_parts (p x) (list_all p xs) all).1

pub all_front : {X : Type 0} (p : X → Bool) (xs : List X) (n : ℕ) → list_all p xs ≡ true → list_all p (take n xs) ≡ true
all_front p xs zero all = refl
all_front p [] (suc n) all = refl
all_front p (x ∷ xs) (suc n) all =
    let parts = and_parts (p x) (list_all p xs) all in
    and_from (p x) (list_all p (take n xs)) parts.0 (all_front p xs n parts.1)

-- ---- a capture is asked for its operand, and has one

pub all_round : (o : Place → Option Operand) (holes : List (Name × Place)) (i : ℕ) (hole : Name × Place) (a : Operand) → i < length holes → hole ≡ get_or holes i hole → Some a ≡ o hole.1
    → list_all is_some (operands_of o (drop i holes)) ≡ list_all is_some (operands_of o (drop (i + 1) holes))
all_round o holes i hole a within is some =
    ap (λ (hs : List (Name × Place)). list_all is_some (operands_of o hs)) (left_at holes i hole within is)
    ∙ ap (λ (r : Option Operand). is_some r && list_all is_some (operands_of o (drop (i + 1) holes))) (sym some)

pub asked_round : (o : Place → Option Operand) (holes : List (Name × Place)) (i : ℕ) (hole : Name × Place) (a : Operand) (steps new : ℕ) → i < length holes → hole ≡ get_or holes i hole → Some a ≡ o hole.1
    → new ≡ ticked steps → counted new (asked o (drop (i + 1) holes)) ≡ counted steps (asked o (drop i holes))
asked_round o holes i hole a steps new within is some ticks =
    let more : asked o (drop i holes) ≡ suc (asked o (drop (i + 1) holes)) =
    ap (asked o) (left_at holes i hole within is) ∙ ap (λ (r : Option Operand). suc (cond (is_some r) (asked o (drop (i + 1) holes)) 0)) (sym some) in
    ap (λ s. counted s (asked o (drop (i + 1) holes))) ticks ∙ ap (counted steps) (sym more)

-- ---- a row is tried, and doesn't hold

module _ (holds : ProbeAt → Bool) (o : Place → Option Operand) where
  pub fit_round : (rows : List TestRow) (i : ℕ) (row : TestRow) → i < length rows → row ≡ get_or rows i row → list_all fits_caps (drop i rows) ≡ true → list_all fits_caps (drop (i + 1) rows) ≡ true
  fit_round rows i row within is fit =
      (and_parts (fits_caps row) (list_all fits_caps (drop (i + 1) rows)) (sym (ap (list_all fits_caps) (left_at rows i row within is)) ∙ fit)).1

  pub answer_round : (passed : ℕ) (rows : List TestRow) (i : ℕ) (row : TestRow) → i < length rows → row ≡ get_or rows i row → found holds o row ≡ None
      → first_found holds o (passed + (i + 1)) (drop (i + 1) rows) ≡ first_found holds o (passed + i) (drop i rows)
  answer_round passed rows i row within is none =
      let e : passed + (i + 1) ≡ suc (passed + i) = omega arith in
      ap (λ n. first_found holds o n (drop (i + 1) rows)) e
      ∙ ap (λ (r : Option Caps). found_or (suc (passed + i)) r (first_found holds o (suc (passed + i)) (drop (i + 1) rows))) (sym none)
      ∙ ap (first_found holds o (passed + i)) (sym (left_at rows i row within is))

  pub count_round : (rows : List TestRow) (i : ℕ) (row : TestRow) (steps new : ℕ) → i < length rows → row ≡ get_or rows i row → found holds o row ≡ None → new ≡ counted steps (looks holds o row)
      → counted new (looks_in holds o (drop (i + 1) rows)) ≡ counted steps (looks_in holds o (drop i rows))
  count_round rows i row steps new within is none ticks =
      let rest = looks_in holds o (drop (i + 1) rows) in
      ap (λ s. counted s rest) ticks
      ∙ counted_sum steps (looks holds o row) rest
      ∙ ap (λ (r : Option Caps). counted steps (looks holds o row + unless_found r rest)) (sym none)
      ∙ ap (λ rs. counted steps (looks_in holds o rs)) (sym (left_at rows i row within is))
