-- The law of exact forms: where a term of a signed type has a value, its exact form has that value.
use Rattle.std.proofs.Common.{◌≡◌, ℕ, Bool, true, false, cond, ◌&&◌, Option, Some, None, List, [], ◌∷◌, ◌++◌, refl, sym, ap, subst, ◌∙◌}
use Rattle.std.specs.Prelude.{ℤ, ⊤, IfSome}
use Rattle.std.specs.List.{list_any, AllByRecursion}
use Rattle.std.proofs.lemmas.Bool.{and_parts}
use Rattle.pm_wide.specs.Types.{Ty, Word, value}
use Rattle.pm_term.specs.Environments.{GivesWords}
use Rattle.pm_term.specs.Terms.{operation_on, term_value, term_values}
use Rattle.pm_term.specs.Trees.{Tree, name, constant, node, Trees, nil, cons, type_of, IsWellTyped, AreWellTyped}
use Rattle.pm_term.proofs.RefiningLaws.{on_values, both}
use Rattle.ring_forms.specs.declared.atom.Atom.{Atom}
use Rattle.ring_forms.specs.declared.atom.Atom.TheVariants.{Name, Operation}
use Rattle.ring_forms.specs.declared.exact.Reading.{Reading}
use Rattle.ring_forms.specs.Atoms.{with_new_atom}
use Rattle.ring_forms.specs.ExactForms.{goes_exactly, exactly_expanded, atoms_in, atoms_of, with_met}
use Rattle.ring_forms.specs.ExactTables.{is_exact}
use Rattle.ring_forms.specs.PolynomialValues.{value_or_zero, node_value}
use Rattle.ring_forms.specs.RingForms.{goes_by_parts, unary_sum, binary_sum, atom}
use Rattle.ring_forms.specs.Sums.{Sum}
use Rattle.ring_forms.specs.TableForms.{combined_form, operand_forms}
use Rattle.ring_forms.proofs.Agreement.{Factors, all_append}
use Rattle.ring_forms.proofs.AtomLemmas.{old_atom}
use Rattle.ring_forms.proofs.ExactReadings.{Met, AllMet, exact_limited, all_exact_limited, exacts_over, afterwards, all_afterwards, with_atom_met, all_further, met_afterwards, kept_exact_limited}
use Rattle.ring_forms.proofs.FixedTables.{operands_over, entry}
use Rattle.ring_forms.proofs.FormBounds.{operand_words}
use Rattle.ring_forms.proofs.Readings.{Has, HasAll, HasFull, full_limited, after, after_all, after_full, operand_forms_are}
use Rattle.ring_forms.proofs.RingLaw as ring
use Rattle.ring_forms.proofs.SameAtoms.{unary_factors, binary_factors}
use Rattle.ring_forms.proofs.Tables.{OrderedFrom, at, values_from, consistent}

-- ---- a table that has all atoms stays as it is

mutual
  closed : (table : List Atom) (m : ℕ) (t : Tree) → Has table m t → after m t table ≡ table
  closed table m (name version ty) h = old_atom table (Name version ty) h
  closed table m (constant word) h = refl
  closed table m (node code ty args) h = by (goes_by_parts m code ty args) refl (λ e. all_closed table m args (h.0 e)) (λ e. full_closed table args (h.1 e).1)
    where
      by : (b : Bool) → goes_by_parts m code ty args ≡ b → (goes_by_parts m code ty args ≡ true → after_all m args table ≡ table) → (goes_by_parts m code ty args ≡ false → after_full args table ≡ table)
          → cond b (after_all m args table) (with_new_atom (after_full args table) (Operation code ty (operands_over (after_full args table) args))) ≡ table
      by true e f g = f e
      by false e f g = (λ i. with_new_atom (g e i) (Operation code ty (operands_over (g e i) args))) ∙ old_atom table (Operation code ty (operands_over table args)) (h.1 e).0

  all_closed : (table : List Atom) (m : ℕ) (ts : Trees) → HasAll table m ts → after_all m ts table ≡ table
  all_closed table m nil h = refl
  all_closed table m (cons t ts) h = ap (after_all m ts) (closed table m t h.0) ∙ all_closed table m ts h.1

  full_closed : (table : List Atom) (ts : Trees) → HasFull table ts → after_full ts table ≡ table
  full_closed table nil h = refl
  full_closed table (cons t ts) h = ap (after_full ts) (closed table (type_of t).width t h.0) ∙ full_closed table ts h.1

module _ (words : ℕ → Ty → Word) (given : GivesWords words) where
  if_some : {X : Type 0} (P : X → Type 0) (o : Option X) (x : X) → o ≡ Some x → IfSome o P → P x
  if_some P o x e h = subst (λ y. IfSome y P) e h

  -- ---- the table of what stands in atoms rests on earlier atoms alone

  ordered_full : (args : Trees) (table : List Atom) → AreWellTyped args → full_limited (after_full args table) args ≡ true → OrderedFrom 0 table → OrderedFrom 0 (after_full args table)
  ordered_full args table w l o =
      let read = operand_forms_are args table ∙ ap (λ b. cond b (Some (operands_over (after_full args table) args, after_full args table)) None) l in
      (if_some (ring.OperandsOf words given table args) (operand_forms args table) (operands_over (after_full args table) args, after_full args table) read (ring.operands_law words given args w table)).ordered o

  mutual
    pub ordered_afterwards : (t : Tree) (r : Reading) → IsWellTyped t → exact_limited (afterwards t r) t ≡ true → OrderedFrom 0 r.inner → OrderedFrom 0 (afterwards t r).inner
    ordered_afterwards (name version ty) r w l o = o
    ordered_afterwards (constant word) r w l o = o
    ordered_afterwards (node code ty args) r w l o = by (goes_exactly code) l (λ k. all_ordered args r w.2 k o)
      where
        by : (b : Bool)
            → cond b (is_exact (combined_form 128 code 0 (exacts_over (cond b (all_afterwards args r) (with_atom_met code ty args r)) args)) && all_exact_limited (cond b (all_afterwards args r) (with_atom_met code ty args r)) args)
            (full_limited (cond b (all_afterwards args r) (with_atom_met code ty args r)).inner args) ≡ true
            → (all_exact_limited (all_afterwards args r) args ≡ true → OrderedFrom 0 (all_afterwards args r).inner) → OrderedFrom 0 (cond b (all_afterwards args r) (with_atom_met code ty args r)).inner
        by true k f = f (and_parts (is_exact (combined_form 128 code 0 (exacts_over (all_afterwards args r) args))) (all_exact_limited (all_afterwards args r) args) k).1
        by false k f = ordered_full args r.inner w.2 k o

    pub all_ordered : (ts : Trees) (r : Reading) → AreWellTyped ts → all_exact_limited (all_afterwards ts r) ts ≡ true → OrderedFrom 0 r.inner → OrderedFrom 0 (all_afterwards ts r).inner
    all_ordered nil r w l o = o
    all_ordered (cons t ts) r w l o =
        let parts = and_parts (exact_limited (all_afterwards ts (afterwards t r)) t) (all_exact_limited (all_afterwards ts (afterwards t r)) ts) l in
        all_ordered ts (afterwards t r) w.1 parts.1
        (ordered_afterwards t r w.0 (sym (kept_exact_limited (afterwards t r) (all_afterwards ts (afterwards t r)) (all_further ts (afterwards t r)) t (met_afterwards t r)) ∙ parts.0) o)

  -- ---- atoms of one entry have one value

  module _ (table : List Atom) (ordered : OrderedFrom 0 table) where
    -- an atom that has a value, and whose operands have forms
    abbrev pub Valued : Tree → Type 0
    Valued (name version ty) = ⊤
    Valued (constant word) = ⊥
    Valued (node code ty args) = HasFull table args × AreWellTyped args × (full_limited table args ≡ true) × ((w : Word) × (term_value words (node code ty args) ≡ Some w))

    abbrev numbers_of : ℕ → ℤ
    numbers_of = at (values_from words [] table)

    pub words_over : (args : Trees) (ws : List Word) → HasFull table args → AreWellTyped args → full_limited table args ≡ true → term_values words args ≡ Some ws → operand_words numbers_of (operands_over table args) ≡ ws
    words_over args ws h w l e =
        let same = full_closed table args h in
        let read = operand_forms_are args table ∙ (λ i. cond (full_limited (same i) args) (Some (operands_over (same i) args, same i)) None) ∙ ap (λ b. cond b (Some (operands_over table args, table)) None) l in
        (if_some (ring.OperandsOf words given table args) (operand_forms args table) (operands_over table args, table) read (ring.operands_law words given args w table)).means
        numbers_of (consistent words [] 0 table refl ordered) ws e

    pub one_value : (a b : Tree) → Valued a → Valued b → entry table a ≡ entry table b → node_value words a ≡ node_value words b
    one_value (constant word) b h i e = absurd h
    one_value (name v s) (constant word) h i e = absurd i
    one_value (name v s) (name x t) h i e = let p : v ≡ x = cc in let q : s ≡ t = cc in λ j. value (words (p j) (q j))
    one_value (name v s) (node c t ys) h i e = cc
    one_value (node c s xs) (constant word) h i e = absurd i
    one_value (node c s xs) (name x t) h i e = cc
    one_value (node c s xs) (node d t ys) h i e =
        let p : c ≡ d = cc in
        let q : s ≡ t = cc in
        let os : operands_over table xs ≡ operands_over table ys = cc in
        let xv = on_values c s (term_values words xs) h.3.0 h.3.1 in
        let yv = on_values d t (term_values words ys) i.3.0 i.3.1 in
        let vals : term_values words xs ≡ term_values words ys
        = xv.1 ∙ ap Some (sym (words_over xs xv.0 h.0 h.1 h.2 xv.1) ∙ ap (operand_words numbers_of) os ∙ words_over ys yv.0 i.0 i.1 i.2 yv.1) ∙ sym yv.1 in
        λ j. value_or_zero (operation_on (p j) (q j) (vals j))

-- ---- what holds of all atoms of a term

module _ (P : Tree → Type 0) where
  pub left_of : (xs ys : List Tree) → AllByRecursion P (xs ++ ys) → AllByRecursion P xs
  left_of [] ys h = tt
  left_of (x ∷ xs) ys h = (h.0, left_of xs ys h.1)

  pub right_of : (xs ys : List Tree) → AllByRecursion P (xs ++ ys) → AllByRecursion P ys
  right_of [] ys h = h
  right_of (x ∷ xs) ys h = right_of xs ys h.1

  chosen_factors : (b : Bool) (xs : List Tree) (a : Tree) (f : Sum Tree) → AllByRecursion P (cond b xs (a ∷ [])) → (AllByRecursion P xs → Factors P f) → Factors P (cond b f (atom a))
  chosen_factors true xs a f h g = g h
  chosen_factors false xs a f h g = (h, tt)

  pub factors_of : (t : Tree) → AllByRecursion P (atoms_in t) → Factors P (exactly_expanded t)
  factors_of (name version ty) h = (h, tt)
  factors_of (constant word) h = (tt, tt)
  factors_of (node code ty nil) h = chosen_factors (goes_exactly code) [] (node code ty nil) [] h (λ g. tt)
  factors_of (node code ty (cons t nil)) h =
      chosen_factors (goes_exactly code) (atoms_in t ++ []) (node code ty (cons t nil)) (unary_sum code (exactly_expanded t)) h (λ g. unary_factors P code (exactly_expanded t) (factors_of t (left_of (atoms_in t) [] g)))
  factors_of (node code ty (cons t (cons s nil))) h =
      chosen_factors (goes_exactly code) (atoms_in t ++ (atoms_in s ++ [])) (node code ty (cons t (cons s nil))) (binary_sum code 0 (exactly_expanded t) (exactly_expanded s)) h
      (λ g. binary_factors P code 0 (exactly_expanded t) (exactly_expanded s) (factors_of t (left_of (atoms_in t) (atoms_in s ++ []) g)) (factors_of s (left_of (atoms_in s) [] (right_of (atoms_in t) (atoms_in s ++ []) g))))
  factors_of (node code ty (cons t (cons s (cons y ys)))) h = chosen_factors (goes_exactly code) (atoms_of (cons t (cons s (cons y ys)))) (node code ty (cons t (cons s (cons y ys)))) [] h (λ g. tt)

  pub all_met : (same : Tree → Tree → Bool) (met xs : List Tree) → AllByRecursion P met → AllByRecursion P xs → AllByRecursion P (with_met same met xs)
  all_met same met [] h g = h
  all_met same met (x ∷ xs) h g = all_met same (cond (list_any (λ b. same b x) met) met (met ++ x ∷ [])) xs (by (list_any (λ b. same b x) met)) g.1
    where
      by : (t : Bool) → AllByRecursion P (cond t met (met ++ x ∷ []))
      by true = h
      by false = all_append P met (x ∷ []) h (g.0, tt)

-- ---- the atoms of a term that has a value

module _ (words : ℕ → Ty → Word) (given : GivesWords words) (r : Reading) (ordered : OrderedFrom 0 r.inner) where
  abbrev Fine : Tree → Type 0
  Fine a = Valued words given r.inner ordered a

  mutual
    pub fine_atoms : (t : Tree) (w : Word) → Met r t → IsWellTyped t → exact_limited r t ≡ true → term_value words t ≡ Some w → AllByRecursion Fine (atoms_in t)
    fine_atoms (name version ty) w h g l e = (tt, tt)
    fine_atoms (constant word) w h g l e = tt
    fine_atoms (node code ty args) w h g l e = by (goes_exactly code) refl l (λ b k. all_fine args (on_values code ty (term_values words args) w e).0 (h.0 b) g.2 k (on_values code ty (term_values words args) w e).1)
      where
        by : (b : Bool) → goes_exactly code ≡ b → cond b (is_exact (combined_form 128 code 0 (exacts_over r args)) && all_exact_limited r args) (full_limited r.inner args) ≡ true
            → (goes_exactly code ≡ true → all_exact_limited r args ≡ true → AllByRecursion Fine (atoms_of args)) → AllByRecursion Fine (cond b (atoms_of args) (node code ty args ∷ []))
        by true p k f = f p (and_parts (is_exact (combined_form 128 code 0 (exacts_over r args))) (all_exact_limited r args) k).1
        by false p k f = (((h.1 p).1, g.2, k, (w, e)), tt)

    all_fine : (ts : Trees) (ws : List Word) → AllMet r ts → AreWellTyped ts → all_exact_limited r ts ≡ true → term_values words ts ≡ Some ws → AllByRecursion Fine (atoms_of ts)
    all_fine nil ws h g l e = tt
    all_fine (cons t ts) ws h g l e =
        let v = both (term_value words t) (term_values words ts) ws e in
        let k = and_parts (exact_limited r t) (all_exact_limited r ts) l in all_append Fine (atoms_in t) (atoms_of ts) (fine_atoms t v.0 h.0 g.0 k.0 v.2) (all_fine ts v.1 h.1 g.1 k.1 v.3)
