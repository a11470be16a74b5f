-- Where the rewriting ends, and by which steps it gets there.
use Rattle.std.proofs.Common.{◌≡◌, ℕ, zero, suc, ◌+◌, ◌<◌, ◌≤◌, Bool, true, false, List, [], ◌∷◌, length}
use Rattle.std.proofs.Common.{Option, Some, None, refl, ap, sym, ◌∙◌, arith, slice_get, slice_index_or}
use Rattle.std.specs.Prelude.{IsSome, is_some, Contains}
use Rattle.std.specs.Option.{option_map}
use Rattle.pm_wide.specs.declared.operand.Operand.{Operand}
use Rattle.gim_ast.specs.declared.function.Function.{Function}
use Rattle.gim_ast.specs.declared.function.Rhs.{Rhs}
use Rattle.first_patterns.specs.Subjects.{Subject, View, subjects, view_of}
use Rattle.first_rewriting.specs.Rewriting.{Choice, Firing, or_else, first_some, choice_at}
use Rattle.first_rewriting.specs.Rewriting.{first_choice, stepped, firing_of, with_firing}
use Rattle.first_rewriting.specs.Rewriting.{rewritten_by}
use Rattle.first_patterns.specs.declared.row.Row.{Row}
use Rattle.first_patterns.specs.Matching.{result_of, found_from}
use Rattle.first_rewriting.specs.Reaches.{Reaches, Done, Spent, Step}
use Rattle.first_rewriting.specs.Rows.{AppliesFirst}
use Rattle.first_rewriting.proofs.Keeping.{some_is}

module _ (row_at : View → Subject → Option (ℕ × Operand)) where
  -- each case of the rewriting, by the first choice
  reaches_at : (left : ℕ) (f : Function) (o : Option (Subject × Choice)) → first_choice row_at f ≡ o
      → ((found : Subject × Choice) → o ≡ Some found
      → Reaches row_at left (stepped row_at f found) (rewritten_by row_at left (stepped row_at f found)).function
      (rewritten_by row_at left (stepped row_at f found)).firings
      (rewritten_by row_at left (stepped row_at f found)).exhausted)
      → Reaches row_at (suc left) f (rewritten_by row_at (suc left) f).function
      (rewritten_by row_at (suc left) f).firings (rewritten_by row_at (suc left) f).exhausted
  unfolding rewritten_by
  reaches_at left f None is more = rw is (Done (suc left) f is)
  reaches_at left f (Some found) is more =
      let rest = rewritten_by row_at left (stepped row_at f found) in
      rw is (Step left f found rest.function rest.firings rest.exhausted is (more found refl))

  reaches_none_left : (f : Function) (o : Option (Subject × Choice)) → first_choice row_at f ≡ o → Reaches row_at 0 f f [] (is_some o)
  reaches_none_left f None is = Done 0 f is
  reaches_none_left f (Some found) is = Spent f found is

  pub reaches : (left : ℕ) (f : Function) → Reaches row_at left f (rewritten_by row_at left f).function
      (rewritten_by row_at left f).firings (rewritten_by row_at left f).exhausted
  unfolding rewritten_by
  reaches zero f = reaches_none_left f (first_choice row_at f) refl
  reaches (suc left) f = reaches_at left f (first_choice row_at f) refl (λ found is. reaches left (stepped row_at f found))

  pub reached : (left : ℕ) (f end : Function) (firings : List Firing) (exhausted : Bool)
      → Reaches row_at left f end firings exhausted
      → record { function = end; firings = firings; exhausted = exhausted } ≡ rewritten_by row_at left f
  unfolding rewritten_by
  reached _ _ _ _ _ (Done zero f none) = rw none refl
  reached _ _ _ _ _ (Done (suc n) f none) = rw none refl
  reached _ _ _ _ _ (Spent f found some) = rw some refl
  reached _ _ _ _ _ (Step n f found end more exhausted some rest) =
      let later = reached n (stepped row_at f found) end more exhausted rest in
      rw some (ap (with_firing row_at (firing_of row_at f found)) later)

  -- what holds of every end that is reached
  pub within_budget : (left : ℕ) (f end : Function) (firings : List Firing) (exhausted : Bool)
      → Reaches row_at left f end firings exhausted → length firings ≤ left
  within_budget _ _ _ _ _ (Done n f none) = omega arith
  within_budget _ _ _ _ _ (Spent f found some) = omega arith
  within_budget _ _ _ _ _ (Step n f found end more exhausted some rest) =
      let later = within_budget n (stepped row_at f found) end more exhausted rest in
      omega arith

  pub budget_spent : (left : ℕ) (f end : Function) (firings : List Firing) (exhausted : Bool)
      → Reaches row_at left f end firings exhausted → exhausted ≡ true → length firings ≡ left
  budget_spent _ _ _ _ _ (Done n f none) is = cc
  budget_spent _ _ _ _ _ (Spent f found some) is = refl
  budget_spent _ _ _ _ _ (Step n f found end more exhausted some rest) is =
      ap suc (budget_spent n (stepped row_at f found) end more exhausted rest is)

  pub nothing_to_do : (left : ℕ) (f end : Function) (firings : List Firing) (exhausted : Bool)
      → Reaches row_at left f end firings exhausted → exhausted ≡ false → first_choice row_at end ≡ None
  nothing_to_do _ _ _ _ _ (Done n f none) is = none
  nothing_to_do _ _ _ _ _ (Spent f found some) is = cc
  nothing_to_do _ _ _ _ _ (Step n f found end more exhausted some rest) is =
      nothing_to_do n (stepped row_at f found) end more exhausted rest is

  some_is_there : (o : Option (Subject × Choice)) (found : Subject × Choice) → o ≡ Some found → IsSome o
  some_is_there o found is = rw is refl

  pub more_to_do : (left : ℕ) (f end : Function) (firings : List Firing) (exhausted : Bool)
      → Reaches row_at left f end firings exhausted → exhausted ≡ true → IsSome (first_choice row_at end)
  more_to_do _ _ _ _ _ (Done n f none) is = cc
  more_to_do _ _ _ _ _ (Spent f found some) is = some_is_there (first_choice row_at f) found some
  more_to_do _ _ _ _ _ (Step n f found end more exhausted some rest) is =
      more_to_do n (stepped row_at f found) end more exhausted rest is

-- ---- no subject has a choice

none_each : {X Y : Type 0} (T : X → Option Y) (xs : List X) (k : ℕ) (x : X) → k < length xs → slice_index_or xs k x ≡ x
    → first_some T xs ≡ None → T x ≡ None
none_each T [] k x within is none = absurd (omega arith)
none_each T (y ∷ ys) zero x within is none = ap T (sym is) ∙ none_head (T y) (first_some T ys) none where
  none_head : {Y : Type 0} (o p : Option Y) → or_else o p ≡ None → o ≡ None
  none_head None p h = refl
  none_head (Some z) p h = h
none_each T (y ∷ ys) (suc k) x within is none = none_each T ys k x (omega arith) is (none_tail (T y) (first_some T ys) none) where
  none_tail : {Y : Type 0} (o p : Option Y) → or_else o p ≡ None → p ≡ None
  none_tail None p h = h
  none_tail (Some z) p h = cc

none_inside : {A B : Type 0} (view : A → B) (o : Option A) → option_map view o ≡ None → o ≡ None
none_inside view None h = refl
none_inside view (Some a) h = cc

pub no_choice : (row_at : View → Subject → Option (ℕ × Operand)) (f : Function) (s : Subject)
    → first_choice row_at f ≡ None → Contains (subjects f) s → choice_at row_at (view_of f) s ≡ None
unfolding first_choice
no_choice row_at f s none among =
    none_inside (λ (c : Choice). (s, c)) (choice_at row_at (view_of f) s)
    (none_each (λ t. option_map (λ c. (t, c)) (choice_at row_at (view_of f) t)) (subjects f) among.0 s among.1
    among.2 none)

-- ---- the first row

-- as `AppliesFirst`, where the rows follow row number n
record FirstAfter (n : ℕ) (rows : List Row) (rhs : Rhs) (m : ℕ) (operand : Operand) : Type 0 where
  place : ℕ
  row : Row
  number : m ≡ suc (n + place)
  there : slice_get rows place ≡ Some row
  applies : result_of row rhs ≡ Some operand
  earlier : (k : ℕ) (other : Row) → k < place → slice_get rows k ≡ Some other → result_of other rhs ≡ None

earlier_rows : (rows : List Row) (row : Row) (rhs : Rhs) (place : ℕ) → result_of row rhs ≡ None
    → ((k : ℕ) (other : Row) → k < place → slice_get rows k ≡ Some other → result_of other rhs ≡ None)
    → (k : ℕ) (other : Row) → k < suc place → slice_get (row ∷ rows) k ≡ Some other → result_of other rhs ≡ None
earlier_rows rows row rhs place none earlier zero other below is =
    let same : row ≡ other = cc in
    ap (λ r. result_of r rhs) (sym same) ∙ none
earlier_rows rows row rhs place none earlier (suc k) other below is = earlier k other (omega arith) is

first_after : (n : ℕ) (rows : List Row) (rhs : Rhs) (m : ℕ) (operand : Operand)
    → found_from n rows rhs ≡ Some (m, operand) → FirstAfter n rows rhs m operand
first_after n [] rhs m operand is = cc
first_after n (row ∷ rows) rhs m operand is =
    (elim (result_of row rhs) as (λ o. result_of row rhs ≡ o → FirstAfter n (row ∷ rows) rhs m operand) [
      | None ↦ λ none.
          let skip : found_from n (row ∷ rows) rhs ≡ found_from (suc n) rows rhs = rw none refl in
          let rest = first_after (suc n) rows rhs m operand (sym skip ∙ is) in
          record {
            place = suc rest.place;
            row = rest.row;
            number = omega (arith, rest.number);
            there = rest.there;
            applies = rest.applies;
            earlier = earlier_rows rows row rhs rest.place none rest.earlier;
          }
      | Some a ↦ λ some.
          let stop : found_from n (row ∷ rows) rhs ≡ Some (suc n, a) = rw some refl in
          let pair : (suc n, a) ≡ (m, operand) = some_is (suc n, a) (m, operand) (sym stop ∙ is) in
          let number : suc n ≡ m = ap (λ (p : ℕ × Operand). p.0) pair in
          let same : a ≡ operand = ap (λ (p : ℕ × Operand). p.1) pair in
          record {
            place = 0;
            row = row;
            number = omega arith;
            there = refl;
            applies = some ∙ ap Some same;
            earlier = λ k other below there. absurd (omega arith);
          }
    ]) refl

pub first_row : (rows : List Row) (rhs : Rhs) (n : ℕ) (operand : Operand) → found_from 0 rows rhs ≡ Some (n, operand)
    → AppliesFirst rows rhs n operand
first_row rows rhs n operand is =
    let first = first_after 0 rows rhs n operand is in
    record {
      place = first.place;
      row = first.row;
      number = omega (arith, first.number);
      there = first.there;
      applies = first.applies;
      earlier = first.earlier;
    }

found_after : (n : ℕ) (rows : List Row) (rhs : Rhs) (place : ℕ) (row : Row) (operand : Operand)
    → slice_get rows place ≡ Some row → result_of row rhs ≡ Some operand
    → ((k : ℕ) (other : Row) → k < place → slice_get rows k ≡ Some other → result_of other rhs ≡ None)
    → found_from n rows rhs ≡ Some (suc (n + place), operand)
found_after n [] rhs place row operand there applies earlier = cc
found_after n (first ∷ rows) rhs zero row operand there applies earlier =
    let same : first ≡ row = cc in
    let here : result_of first rhs ≡ Some operand = ap (λ r. result_of r rhs) same ∙ applies in
    let number : suc n ≡ suc (n + 0) = omega arith in
    rw here (ap (λ m. Some (m, operand)) number)
found_after n (first ∷ rows) rhs (suc place) row operand there applies earlier =
    let none : result_of first rhs ≡ None = earlier 0 first (omega arith) refl in
    let rest = found_after (suc n) rows rhs place row operand there applies (λ k other below is. earlier (suc k) other (omega arith) is) in
    let number : suc (suc n + place) ≡ suc (n + suc place) = omega arith in
    rw none (rest ∙ ap (λ m. Some (m, operand)) number)

pub only_first_row : (rows : List Row) (rhs : Rhs) (n : ℕ) (operand : Operand) → AppliesFirst rows rhs n operand
    → found_from 0 rows rhs ≡ Some (n, operand)
only_first_row rows rhs n operand first =
    let number : suc (0 + first.place) ≡ n = omega (arith, first.number) in
    found_after 0 rows rhs first.place first.row operand first.there first.applies first.earlier ∙ ap (λ m. Some (m, operand)) number

pub no_row : (n : ℕ) (rows : List Row) (rhs : Rhs) (k : ℕ) (row : Row) → found_from n rows rhs ≡ None
    → slice_get rows k ≡ Some row → result_of row rhs ≡ None
no_row n [] rhs k row none there = cc
no_row n (first ∷ rows) rhs k row is there =
    (elim (result_of first rhs) as (λ o. result_of first rhs ≡ o → result_of row rhs ≡ None) [
      | None ↦ λ none.
          let skip : found_from n (first ∷ rows) rhs ≡ found_from (suc n) rows rhs = rw none refl in
          earlier_rows rows first rhs (suc k) none
          (λ j other below at_j. no_row (suc n) rows rhs j other (sym skip ∙ is) at_j) k row (omega arith) there
      | Some a ↦ λ some.
          let stop : found_from n (first ∷ rows) rhs ≡ Some (suc n, a) = rw some refl in
          let both : Some (suc n, a) ≡ None = sym stop ∙ is in
          cc
    ]) refl
