-- The exact form of a term that has a value has that value.
use Rattle.std.proofs.Common.{◌≡◌, ℕ, suc, ◌<◌, ◌==◌, Bool, true, false, not, cond, ◌&&◌, Option, Some, None, List, [], ◌∷◌, map, length, slice_get, refl, sym, ap, subst, ◌∙◌, arith, eqb-true}
use Rattle.std.specs.Prelude.{ℤ, pos, ◌+ℤ◌, ◌*ℤ◌, nat_eq}
use Rattle.std.specs.Cmp.Lexicographic.{pointwise}
use Rattle.std.specs.List.{AllByRecursion}
use Rattle.std.proofs.lemmas.Bool.{and_parts}
use Rattle.std.proofs.lemmas.Int.{ints}
use Rattle.pm_wide.specs.Types.{Ty, Word, value}
use Rattle.pm_wide.proofs.Whole.{mul_assoc, one-mul, mul-one}
use Rattle.pm_term.specs.Environments.{GivesWords}
use Rattle.pm_term.specs.Terms.{term_value}
use Rattle.pm_term.specs.Trees.{Tree, name, constant, node, type_of, operations, IsWellTyped}
use Rattle.ring_forms.specs.declared.atom.Atom.{Atom}
use Rattle.ring_forms.specs.declared.exact.Reading.{Reading}
use Rattle.ring_forms.specs.declared.poly.Monomial.{Monomial}
use Rattle.ring_forms.specs.Atoms.{same_entry, atom_number}
use Rattle.ring_forms.specs.ExactForms.{atoms_in, exactly_expanded, has_exact_parts, same_in, has_exact_form, met_atoms, place_in, by_numbers, with_power, powers, factor_at, factors, term_at, IsExactForm}
use Rattle.ring_forms.specs.ExactTables.{blank}
use Rattle.ring_forms.specs.PolynomialValues.{node_value, raised, factors_value, terms_value}
use Rattle.ring_forms.specs.Sums.{Sum, coefficient}
use Rattle.ring_forms.proofs.Agreement.{Factors}
use Rattle.ring_forms.proofs.AtomLemmas.{atom_decides}
use Rattle.ring_forms.proofs.CleanForms.{hit}
use Rattle.ring_forms.proofs.ExactLaw.{Valued, one_value, fine_atoms, factors_of, all_met, ordered_afterwards}
use Rattle.ring_forms.proofs.ExactLimits.{IsMet, HeldMet, held_factors}
use Rattle.ring_forms.proofs.ExactPolynomials.{coefficient_total, limited_is, place_number, told}
use Rattle.ring_forms.proofs.ExactReadings.{afterwards, met_afterwards, exact_limited}
use Rattle.ring_forms.proofs.ExactValues.{nodes_value, exact_value}
use Rattle.ring_forms.proofs.FixedTables.{entry, total}
use Rattle.ring_forms.proofs.FormLemmas.{same_numbers, numbers_same}
use Rattle.ring_forms.proofs.FormValues.{atoms_value, joined_value}
use Rattle.ring_forms.proofs.Products.{same_number, sorted, sorted_itself, sorted_rising}
use Rattle.ring_forms.proofs.Readings.{IsIn}
use Rattle.ring_forms.proofs.Tables.{OrderedFrom}
use Rattle.ring_forms.proofs.WholeTotals.{coefficients_decide}

-- ---- sums with the same coefficients have one value

module _ (v : ℕ → ℤ) where
  abbrev in_order : Sum ℕ → Sum ℕ
  in_order s = map (λ e. (e.0, sorted e.1)) s

  order_total : (u : List ℕ → ℤ) (s : Sum ℕ) → total u (in_order s) ≡ total (λ q. u (sorted q)) s
  order_total u [] = refl
  order_total u (e ∷ es) = ap (λ x. e.0 *ℤ u (sorted e.1) +ℤ x) (order_total u es)

  never : (k : List ℕ) (s : Sum ℕ) → pointwise nat_eq k (sorted k) ≡ false → total (λ q. hit k (sorted q)) s ≡ pos 0
  never k [] h = refl
  never k (e ∷ es) h = by (pointwise nat_eq k (sorted e.1)) refl (never k es h)
    where
      zero_first : (c x : ℤ) → x ≡ pos 0 → c *ℤ pos 0 +ℤ x ≡ pos 0
      zero_first c x z = omega (arith, ints, z)

      by : (t : Bool) → pointwise nat_eq k (sorted e.1) ≡ t → total (λ q. hit k (sorted q)) es ≡ pos 0 → e.0 *ℤ cond t (pos 1) (pos 0) +ℤ total (λ q. hit k (sorted q)) es ≡ pos 0
      by false g z = zero_first e.0 (total (λ q. hit k (sorted q)) es) z
      by true g z =
          let is = same_numbers k (sorted e.1) g in
          let own : k ≡ sorted k = is ∙ sym (sorted_itself (sorted e.1) (sorted_rising e.1)) ∙ ap sorted (sym is) in
          let yes = numbers_same k (sorted k) own in cc

  pub sorted_value : (q : List ℕ) → atoms_value v (sorted q) ≡ atoms_value v q
  sorted_value q = joined_value v 0 q [] ∙ mul-one (atoms_value v q)

  one_total : (s t : Sum ℕ) → ((p : List ℕ) → coefficient same_number p s ≡ coefficient same_number p t) → total (atoms_value v) s ≡ total (atoms_value v) t
  one_total s t h =
      (λ i. total (λ q. sym (sorted_value q) i) s) ∙ sym (order_total (atoms_value v) s)
      ∙ coefficients_decide (in_order s) (in_order t) (λ k. order_total (hit k) s ∙ each k (pointwise nat_eq k (sorted k)) refl ∙ sym (order_total (hit k) t)) (atoms_value v)
      ∙ order_total (atoms_value v) t ∙ (λ i. total (λ q. sorted_value q i) t)
    where
      each : (k : List ℕ) (b : Bool) → pointwise nat_eq k (sorted k) ≡ b → total (λ q. hit k (sorted q)) s ≡ total (λ q. hit k (sorted q)) t
      each k false e = never k s e ∙ sym (never k t e)
      each k true e =
          let is = same_numbers k (sorted k) e in
          (λ i. total (λ q. hit (is i) (sorted q)) s) ∙ sym (coefficient_total k s) ∙ h k ∙ coefficient_total k t ∙ (λ i. total (λ q. hit (sym is i) (sorted q)) t)

-- ---- terms by the nodes of their atoms

module _ (words : ℕ → Ty → Word) (met : List Tree) where
  abbrev pub value_at : Option Tree → ℤ
  value_at None = pos 1
  value_at (Some a) = node_value words a

  -- the value of the atom of that number
  abbrev pub at_place : ℕ → ℤ
  at_place n = value_at (slice_get met n)

  abbrev row_value : List (ℕ × ℕ) → ℤ
  row_value rs = factors_value words (factors met rs)

  first_power : (o : Option Tree) (rs : List (ℕ × ℕ)) → factors_value words (factor_at o 1 (factors met rs)) ≡ value_at o *ℤ row_value rs
  first_power None rs = sym (one-mul (row_value rs))
  first_power (Some a) rs = ap (λ x. x *ℤ row_value rs) (mul-one (node_value words a))

  next_power : (o : Option Tree) (n : ℕ) (rs : List (ℕ × ℕ)) → factors_value words (factor_at o (suc n) (factors met rs)) ≡ value_at o *ℤ factors_value words (factor_at o n (factors met rs))
  next_power None n rs = sym (one-mul (row_value rs))
  next_power (Some a) n rs = mul_assoc (node_value words a) (raised (node_value words a) n) (row_value rs)

  with_power_value : (a : ℕ) (rs : List (ℕ × ℕ)) → row_value (with_power a rs) ≡ at_place a *ℤ row_value rs
  with_power_value a [] = first_power (slice_get met a) []
  with_power_value a (r ∷ rs) = by (r.0 == a) refl
    where
      by : (t : Bool) → (r.0 == a) ≡ t → row_value (cond t ((a, suc r.1) ∷ rs) ((a, 1) ∷ r ∷ rs)) ≡ at_place a *ℤ row_value (r ∷ rs)
      by true e = next_power (slice_get met a) r.1 rs ∙ ap (λ n. at_place a *ℤ factors_value words (factor_at (slice_get met n) r.1 (factors met rs))) (sym (eqb-true r.0 a e))
      by false e = first_power (slice_get met a) (r ∷ rs)

  powers_value : (p : List ℕ) → row_value (powers p) ≡ atoms_value at_place p
  powers_value [] = refl
  powers_value (a ∷ rest) = with_power_value a (powers rest) ∙ ap (λ x. at_place a *ℤ x) (powers_value rest)

  terms_total : (entries : Sum ℕ) → terms_value words (map (term_at met) entries) ≡ total (atoms_value at_place) entries
  terms_total [] = refl
  terms_total (e ∷ es) = λ i. e.0 *ℤ powers_value e.1 i +ℤ terms_total es i

-- ---- the node of an atom's number

pub entry_at : (E : Tree → Atom) (P : Tree → Type 0) (x : Atom) (nodes : List Tree) → AllByRecursion P nodes → atom_number (map E nodes) x < length (map E nodes)
    → (b : Tree) × (slice_get nodes (atom_number (map E nodes) x) ≡ Some b) × (E b ≡ x) × P b
entry_at E P x [] h l = absurd (omega (arith, l))
entry_at E P x (b ∷ bs) h l = by (same_entry (E b) x) refl l (entry_at E P x bs h.1)
  where
    by : (t : Bool) → same_entry (E b) x ≡ t → cond t 0 (suc (atom_number (map E bs) x)) < suc (length (map E bs))
        → (atom_number (map E bs) x < length (map E bs) → (c : Tree) × (slice_get bs (atom_number (map E bs) x) ≡ Some c) × (E c ≡ x) × P c)
        → (c : Tree) × (slice_get (b ∷ bs) (cond t 0 (suc (atom_number (map E bs) x))) ≡ Some c) × (E c ≡ x) × P c
    by true e k later = (b, refl, (atom_decides (E b) x).0 e, h.0)
    by false e k later = later (omega (arith, k))

module _ (words : ℕ → Ty → Word) (given : GivesWords words) (t : Tree) (w : IsWellTyped t) (has : has_exact_form t ≡ true) (result : Word) (e : term_value words t ≡ Some result) where
  abbrev r : Reading
  r = afterwards t blank

  abbrev depth : ℕ
  depth = suc (operations t)

  unsigned_not : (b c : Bool) → (not b && c) ≡ true → b ≡ false
  unsigned_not true c h = cc
  unsigned_not false c h = refl

  is_signed : (type_of t).unsigned ≡ false
  is_signed = unsigned_not (type_of t).unsigned (has_exact_parts (same_in t) t) has

  limited : exact_limited r t ≡ true
  limited = sym (limited_is t w is_signed) ∙ (and_parts (not (type_of t).unsigned) (has_exact_parts (same_in t) t) has).1

  ordered : OrderedFrom 0 r.inner
  ordered = ordered_afterwards words given t blank w limited tt

  abbrev Fine : Tree → Type 0
  Fine a = Valued words given r.inner ordered a

  fine : AllByRecursion Fine (atoms_in t)
  fine = fine_atoms words given r ordered t result (met_afterwards t blank) w limited e

  fine_nodes : AllByRecursion Fine r.nodes
  fine_nodes = subst (AllByRecursion Fine) (sym (told t w).1) (all_met Fine (same_in t) [] (atoms_in t) tt fine)

  is_in : (a : Tree) → IsMet r a → IsIn r.atoms (entry r.inner a)
  is_in (name version ty) h = h
  is_in (constant word) h = absurd h
  is_in (node code ty args) h = h.0

  abbrev place : Tree → ℕ
  place a = place_in (same_in t) (met_atoms t) a

  place_value : (a : Tree) → HeldMet r depth a → Fine a → at_place words (met_atoms t) (place a) ≡ node_value words a
  place_value a h f =
      let entries = (told t w).0.entries in
      let inside : atom_number (map (entry r.inner) r.nodes) (entry r.inner a) < length (map (entry r.inner) r.nodes) = subst (λ atoms. atom_number atoms (entry r.inner a) < length atoms) entries (is_in a h.0) in
      let found = entry_at (entry r.inner) Fine (entry r.inner a) r.nodes fine_nodes inside in
      let number : place a ≡ atom_number (map (entry r.inner) r.nodes) (entry r.inner a) = place_number t w a h ∙ ap (λ atoms. atom_number atoms (entry r.inner a)) entries in
      let there : slice_get (met_atoms t) (place a) ≡ Some found.0 = (λ i. slice_get (sym (told t w).1 i) (number i)) ∙ found.1 in
      ap (value_at words (met_atoms t)) there ∙ one_value words given r.inner ordered found.0 a found.3 f found.2

  product_value : (p : List Tree) → AllByRecursion (HeldMet r depth) p → AllByRecursion Fine p → atoms_value (at_place words (met_atoms t)) (map place p) ≡ nodes_value words given p
  product_value [] h f = refl
  product_value (a ∷ rest) h f = λ i. place_value a h.0 f.0 i *ℤ product_value rest h.1 f.1 i

  numbered_value : (s : Sum Tree) → Factors (HeldMet r depth) s → Factors Fine s → total (atoms_value (at_place words (met_atoms t))) (map (λ e. (e.0, map place e.1)) s) ≡ total (nodes_value words given) s
  numbered_value [] h f = refl
  numbered_value (e ∷ es) h f = λ i. e.0 *ℤ product_value e.1 h.0 f.0 i +ℤ numbered_value es h.1 f.1 i

  pub value_of_terms : (terms : List (Monomial × ℤ)) → IsExactForm t terms → terms_value words terms ≡ value result
  value_of_terms terms form =
      ap (terms_value words) form.listed ∙ terms_total words (met_atoms t) form.entries ∙ one_total (at_place words (met_atoms t)) form.entries (by_numbers t) form.coefficients
      ∙ numbered_value (exactly_expanded t) (held_factors r depth t (met_afterwards t blank) w (omega arith)) (factors_of Fine t fine) ∙ sym (exact_value words given t w is_signed result e)
