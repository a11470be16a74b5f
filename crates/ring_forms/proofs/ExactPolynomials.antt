-- What is read and put in order is the exact form.
use Rattle.std.proofs.Common.{◌≡◌, ℕ, suc, ◌<◌, ◌≤◌, ◌^◌, Bool, true, false, not, cond, ◌&&◌, Option, Some, None, List, [], ◌∷◌, map, length, refl, sym, ap, subst, ◌∙◌, arith}
use Rattle.std.specs.Prelude.{ℤ, pos, neg_ℤ, ◌+ℤ◌, ◌*ℤ◌, ◌-◌, ◌≢◌, nat_le, nat_lt, nat_eq}
use Rattle.std.specs.Cmp.Lexicographic.{pointwise}
use Rattle.std.specs.List.{list_all, AllByRecursion}
use Rattle.std.proofs.lemmas.Bool.{and_parts}
use Rattle.std.proofs.lemmas.Bool.Decides.{nat_tests}
use Rattle.std.proofs.lemmas.Int.{ints}
use Rattle.pm_term.specs.Trees.{Tree, name, constant, node, type_of, operations, IsWellTyped}
use Rattle.pm_wide.specs.Types.{value}
use Rattle.ring_forms.specs.declared.atom.Atom.TheVariants.{Operation}
use Rattle.ring_forms.specs.declared.exact.Reading.{Reading}
use Rattle.ring_forms.specs.declared.form.Part.{Part}
use Rattle.ring_forms.specs.declared.poly.Monomial.{Monomial}
use Rattle.ring_forms.specs.Atoms.{atom_number}
use Rattle.ring_forms.specs.ExactForms.{goes_exactly, exactly_expanded, has_exact_parts, same_in, has_exact_form, met_atoms, place_in, by_numbers, Rises, term_at, IsExactForm}
use Rattle.ring_forms.specs.ExactTables.{is_small, is_exact, exact_read, blank, terms_read, exact_terms}
use Rattle.ring_forms.specs.Forms.{constant_form, atom_form, within_limits}
use Rattle.ring_forms.specs.TableForms.{combined_form}
use Rattle.ring_forms.specs.Polynomials.{in_rank_order, terms_of, whole}
use Rattle.ring_forms.specs.Sums.{Sum, coefficient}
use Rattle.ring_forms.proofs.Agreement.{Factors}
use Rattle.ring_forms.proofs.CleanForms.{Clean, hit}
use Rattle.ring_forms.proofs.ExactLimits.{met_number, Good, HeldMet, good_read, exact_parts_are, held_factors}
use Rattle.ring_forms.proofs.ExactReadings.{afterwards, met_afterwards, exact_over, exacts_over, exact_limited, all_exact_limited, exact_read_is}
use Rattle.ring_forms.proofs.ExactSums.{signed, small_all}
use Rattle.ring_forms.proofs.FixedTables.{operands_over, entry, total, numbers}
use Rattle.ring_forms.proofs.MetAtoms.{HeldInside, Told, told_afterwards, place_is}
use Rattle.ring_forms.proofs.Products.{same_number, same_sorted, sorted, sorted_itself, Rising}
use Rattle.ring_forms.proofs.RankOrder.{Small, terms_are, ranked_all, in_order, ranked_total}
use Rattle.ring_forms.proofs.Readings.{itself, full_limited}

-- ---- coefficients of sums by numbers

times : (t : Bool) (c : ℤ) → cond t c (pos 0) ≡ c *ℤ cond t (pos 1) (pos 0)
times true c = omega (arith, ints)
times false c = omega (arith, ints)

pub coefficient_total : (p : List ℕ) (s : Sum ℕ) → coefficient same_number p s ≡ total (λ q. hit (sorted p) (sorted q)) s
coefficient_total p [] = refl
coefficient_total p (e ∷ es) = λ i. (ap (λ b. cond b e.0 (pos 0)) (same_sorted p e.1) ∙ times (pointwise nat_eq (sorted p) (sorted e.1)) e.0) i +ℤ coefficient_total p es i

module _ (k : List ℕ) where
  sorted_total : (f : List Part) → AllByRecursion (λ (p : Part). Rising p.atoms) f → total (λ q. hit k (sorted q)) (signed f) ≡ total (hit k) (signed f)
  sorted_total [] h = refl
  sorted_total (p ∷ ps) h = λ i. whole p.coefficient *ℤ hit k (sorted_itself p.atoms h.0 i) +ℤ sorted_total ps h.1 i

  module _ (P : Tree → Type 0) (f g : Tree → ℕ) (agree : (a : Tree) → P a → f a ≡ g a) where
    agreed : (p : List Tree) → AllByRecursion P p → map f p ≡ map g p
    agreed [] h = refl
    agreed (a ∷ rest) h = λ i. agree a h.0 i ∷ agreed rest h.1 i

    pub numbered_total : (s : Sum Tree) → Factors P s → total (λ q. hit k (sorted q)) (map (λ e. (e.0, map f e.1)) s) ≡ total (λ p. hit k (numbers g p)) s
    numbered_total [] h = refl
    numbered_total (e ∷ es) h = λ i. e.0 *ℤ hit k (sorted (agreed e.1 h.0 i)) +ℤ numbered_total es h.1 i

-- ---- parts of a clean form

clean_rising : (f : List Part) → Clean 128 f → AllByRecursion (λ (p : Part). Rising p.atoms) f
clean_rising [] c = tt
clean_rising (p ∷ ps) c = (c.0.0, clean_rising ps c.2)

whole_above : (c : ℕ) → 0 < c → c < 2 ^ 128 → is_small c ≡ true → whole c ≡ pos 0 → ⊥
whole_above c h g s e = by (nat_lt c (2 ^ 63)) (nat_lt (2 ^ 128 - c) (2 ^ 63)) refl refl e
  where
    by : (a b : Bool) → nat_lt c (2 ^ 63) ≡ a → nat_lt (2 ^ 128 - c) (2 ^ 63) ≡ b → cond a (pos c) (cond b (neg_ℤ (pos (2 ^ 128 - c))) (pos 0)) ≡ pos 0 → ⊥
    by true b p q i = omega (arith, ints, i, h)
    by false true p q i = omega (arith, ints, i, g)
    by false false p q i = grind (arith, nat_tests, p, q, s, g)

clean_above : (f : List Part) → Clean 128 f → small_all f ≡ true → AllByRecursion (λ (p : Part). whole p.coefficient ≡ pos 0 → ⊥) f
clean_above [] c s = tt
clean_above (p ∷ ps) c s = let both = and_parts (is_small p.coefficient) (small_all ps) s in (whole_above p.coefficient c.0.1 c.0.2 both.0, clean_above ps c.2 both.1)

small_parts : (f : List Part) → list_all (λ p. nat_le (length p.atoms) 8) f ≡ true → AllByRecursion Small f
small_parts [] h = tt
small_parts (p ∷ ps) h = let both = and_parts (nat_le (length p.atoms) 8) (list_all (λ p. nat_le (length p.atoms) 8) ps) h in (at_most both.0, small_parts ps both.1)
  where
    at_most : nat_le (length p.atoms) 8 ≡ true → length p.atoms ≤ 8
    at_most e = grind (arith, nat_tests, e)

of_parts : (P : Part → Type 0) (Q : ℤ × List ℕ → Type 0) → ((p : Part) → P p → Q (whole p.coefficient, p.atoms)) → (f : List Part) → AllByRecursion P f → AllByRecursion Q (signed f)
of_parts P Q g [] h = tt
of_parts P Q g (p ∷ ps) h = (g p h.0, of_parts P Q g ps h.1)

-- ---- the exact form

module _ (t : Tree) (w : IsWellTyped t) where
  abbrev r : Reading
  r = afterwards t blank

  abbrev f : List Part
  f = exact_over r t

  abbrev depth : ℕ
  depth = suc (operations t)

  pub told : Told r.inner depth r × (r.nodes ≡ met_atoms t)
  told = told_afterwards r.inner depth t blank (itself r.inner) w (omega arith) (record { entries = refl; held = tt })

  pub limited_is : (type_of t).unsigned ≡ false → has_exact_parts (same_in t) t ≡ exact_limited r t
  limited_is u = exact_parts_are r depth t (met_afterwards t blank) w u (omega arith)

  inside : (a : Tree) → HeldMet r depth a → HeldInside r.inner depth a
  inside (name version ty) h = (tt, h.1, h.2)
  inside (constant word) h = h
  inside (node code ty args) h = (h.0.1, h.1, h.2)

  -- an atom's place among those met is its number
  pub place_number : (a : Tree) → HeldMet r depth a → place_in (same_in t) (met_atoms t) a ≡ met_number r a
  place_number a h =
      ap (λ nodes. place_in (same_in t) nodes a) (sym told.1) ∙ place_is r.inner depth a r.nodes (inside a h) told.0.held
      ∙ ap (λ atoms. atom_number atoms (entry r.inner a)) (sym told.0.entries)

  is_exact_form : Good r f (exactly_expanded t) → AllByRecursion Small f → IsExactForm t (terms_of r.nodes (in_rank_order f))
  is_exact_form g s = record {
    entries = signed (in_rank_order f);
    listed = terms_are r.nodes (in_rank_order f) (ranked_all Small f s) ∙ ap (λ nodes. map (term_at nodes) (signed (in_rank_order f))) told.1;
    rising = of_parts (λ (p : Part). Rising p.atoms) (λ e. Rises e.1) (λ p h. h) (in_rank_order f) (ranked_all (λ (p : Part). Rising p.atoms) f (clean_rising f g.clean));
    nonzero = of_parts (λ (p : Part). whole p.coefficient ≡ pos 0 → ⊥) (λ e. e.0 ≢ pos 0) (λ p h. h) (in_rank_order f) (ranked_all (λ (p : Part). whole p.coefficient ≡ pos 0 → ⊥) f (clean_above f g.clean g.small));
    ordered = in_order 128 f g.clean s;
    coefficients = λ p.
        (coefficient_total p (signed (in_rank_order f))
        ∙ sorted_total (sorted p) (in_rank_order f) (ranked_all (λ (q : Part). Rising q.atoms) f (clean_rising f g.clean))
        ∙ ranked_total (hit (sorted p)) f ∙ g.totals (hit (sorted p))
        ∙ sym (numbered_total (sorted p) (HeldMet r depth) (place_in (same_in t) (met_atoms t)) (met_number r) place_number (exactly_expanded t) (held_factors r depth t (met_afterwards t blank) w (omega arith)))
        ∙ sym (coefficient_total p (by_numbers t)));
  }

-- ---- what the code answers

limits : (f : List Part) → is_exact f ≡ true → AllByRecursion Small f
limits f e = small_parts f (and_parts (nat_le (length f) 64) (list_all (λ p. nat_le (length p.atoms) 8) f) (and_parts (within_limits f) (small_all f) e).0).1

small_read : (r : Reading) (t : Tree) → exact_limited r t ≡ true → AllByRecursion Small (exact_over r t)
small_read r (name version ty) e = (omega arith, tt)
small_read r (constant word) e = limits (constant_form 128 (value word)) e
small_read r (node code ty args) e = by (goes_exactly code) e
  where
    by : (b : Bool) → cond b (is_exact (combined_form 128 code 0 (exacts_over r args)) && all_exact_limited r args) (full_limited r.inner args) ≡ true
        → AllByRecursion Small (cond b (combined_form 128 code 0 (exacts_over r args)) (atom_form (atom_number r.atoms (Operation code ty (operands_over r.inner args)))))
    by true k = limits (combined_form 128 code 0 (exacts_over r args)) (and_parts (is_exact (combined_form 128 code 0 (exacts_over r args))) (all_exact_limited r args) k).0
    by false k = (omega arith, tt)

module _ (t : Tree) (w : IsWellTyped t) where
  abbrev Answer : Option (List (Monomial × ℤ)) → Type 0
  Answer None = has_exact_form t ≡ false
  Answer (Some terms) = (has_exact_form t ≡ true) × IsExactForm t terms

  signed_answer : (type_of t).unsigned ≡ false → Answer (terms_read (exact_read t blank))
  signed_answer u = subst (λ o. Answer (terms_read o)) (sym (exact_read_is t blank)) (by (exact_limited (afterwards t blank) t) refl)
    where
      has : (b : Bool) → exact_limited (afterwards t blank) t ≡ b → has_exact_form t ≡ b
      has b e = (λ i. not (u i) && limited_is t w u i) ∙ e

      by : (b : Bool) → exact_limited (afterwards t blank) t ≡ b → Answer (terms_read (cond b (Some (exact_over (afterwards t blank) t, afterwards t blank)) None))
      by false e = has false e
      by true e = (has true e, is_exact_form t w (good_read (afterwards t blank) t w u e) (small_read (afterwards t blank) t e))

  pub answer : Answer (exact_terms t)
  answer = by (type_of t).unsigned refl
    where
      by : (b : Bool) → (type_of t).unsigned ≡ b → Answer (cond b None (terms_read (exact_read t blank)))
      by true u = ap (λ b. not b && has_exact_parts (same_in t) t) u
      by false u = signed_answer u

pub no_form : (t : Tree) → IsWellTyped t → exact_terms t ≡ (let o : Option (List (Monomial × ℤ)) = None in o) → has_exact_form t ≡ false
no_form t w e = subst (Answer t w) e (answer t w)

pub one_form : (t : Tree) (terms : List (Monomial × ℤ)) → IsWellTyped t → exact_terms t ≡ Some terms → (has_exact_form t ≡ true) × IsExactForm t terms
one_form t terms w e = subst (Answer t w) e (answer t w)
