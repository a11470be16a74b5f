-- Forms modulo 2 ^ 128 whose coefficients are small stand for sums over whole numbers.
use Rattle.std.proofs.Common.{◌≡◌, ℕ, suc, ◌-◌, ◌<◌, ◌≤◌, ◌^◌, ◌==◌, Bool, true, false, not, cond, ◌&&◌, List, [], ◌∷◌, map, length, refl, sym, ap, subst, ◌∙◌, arith, eqb-true, Greater}
use Rattle.std.specs.Prelude.{ℤ, pos, negsuc, neg_ℤ, ◌+ℤ◌, ◌*ℤ◌, nat_lt, nat_le, nat_eq}
use Rattle.std.specs.Cmp.{both_ways}
use Rattle.std.specs.Cmp.Lexicographic.{pointwise, texts_ties}
use Rattle.std.specs.Int.RustNames.{unsigned_abs}
use Rattle.std.specs.List.{list_all, list_any, filter, AllByRecursion}
use Rattle.std.specs.Ordering.{ordering_reverse, is_eq}
use Rattle.std.specs.Set.{is_member, distinct_count}
use Rattle.std.proofs.lemmas.Bool.{and_parts}
use Rattle.std.proofs.lemmas.Bool.Decides.{nat_tests}
use Rattle.std.proofs.lemmas.Cmp.{nat_list_cmp_total}
use Rattle.std.proofs.lemmas.Int.{ints}
use Rattle.std.proofs.lemmas.List.Folds.{list_all-map}
use Rattle.pm_wide.specs.Congruence.{Congruent}
use Rattle.pm_wide.specs.Residues.{residue}
use Rattle.pm_wide.proofs.Congruence.{joined, turned}
use Rattle.pm_wide.proofs.Residues.{residue_congruent, residue-below}
use Rattle.pm_term.specs.Trees.{Tree}
use Rattle.ring_forms.specs.declared.form.Part.{Part}
use Rattle.ring_forms.specs.ExactForms.{exact_monomials, is_exactly_within}
use Rattle.ring_forms.specs.ExactTables.{is_small, is_exact}
use Rattle.ring_forms.specs.Polynomials.{whole}
use Rattle.ring_forms.specs.RingForms.{products, form_coefficient, monomials}
use Rattle.ring_forms.specs.Sums.{Sum, same_product, coefficient}
use Rattle.ring_forms.proofs.CleanForms.{Clean, Before, order, products_of, hit, at_key, own, passed, one_number, small_residue, zero_residue, stands}
use Rattle.ring_forms.proofs.FixedTables.{total, numbers, StandsFor}
use Rattle.ring_forms.proofs.FormLemmas.{same_numbers}
use Rattle.ring_forms.proofs.FormLimits.{same_numbered, numbered, keys, coefficient_numbered, unmet, same_residue, as_many, as_small, found, holds_of_members}
use Rattle.ring_forms.proofs.WholeTotals.{size_negative, coefficients_decide}

-- ---- a residue and the whole number that it stands for

below_all : (n : ℕ) → suc n ≤ 2 ^ 127 → Congruent 128 (pos (2 ^ 128 - suc n)) (negsuc n)
below_all n h = record { multiple = pos 1; differ = omega (arith, ints, h) }

-- a residue is that of a number from -2 ^ 127 to 2 ^ 127
pub record Stands (c : ℕ) (z : ℤ) : Type 0 where
  pub zero_alike : (unsigned_abs z == 0) ≡ (c == 0)
  pub small_alike : nat_lt (unsigned_abs z) (2 ^ 56) ≡ is_small c
  pub itself : is_small c ≡ true → whole c ≡ z

tests : (s t : Bool) → (s ≡ true → t ≡ true) → (t ≡ true → s ≡ true) → s ≡ t
tests s t f g = both_ways s t f g

above_stands : (n : ℕ) → n ≤ 2 ^ 127 → Stands n (pos n)
above_stands n h = record {
  zero_alike = refl;
  small_alike = tests (nat_lt n (2 ^ 56)) (is_small n) (λ e. grind (arith, nat_tests, e)) (λ e. grind (arith, nat_tests, e, h));
  itself = λ e. by (nat_lt n (2 ^ 63)) refl e;
}
  where
    by : (t : Bool) → nat_lt n (2 ^ 63) ≡ t → is_small n ≡ true → cond t (pos n) (cond (nat_lt (2 ^ 128 - n) (2 ^ 63)) (neg_ℤ (pos (2 ^ 128 - n))) (pos 0)) ≡ pos n
    by true f e = refl
    by false f e = absurd (grind (arith, nat_tests, e, f, h))

below_stands : (n : ℕ) → suc n ≤ 2 ^ 127 → Stands (2 ^ 128 - suc n) (negsuc n)
below_stands n h = record {
  zero_alike = tests (suc n == 0) (2 ^ 128 - suc n == 0) (λ e. grind (arith, nat_tests, e)) (λ e. grind (arith, nat_tests, e, h));
  small_alike = tests (nat_lt (suc n) (2 ^ 56)) (is_small (2 ^ 128 - suc n)) (λ e. grind (arith, nat_tests, e, h)) (λ e. grind (arith, nat_tests, e, h));
  itself = λ e. by (nat_lt (2 ^ 128 - suc n) (2 ^ 63)) (nat_lt (2 ^ 128 - (2 ^ 128 - suc n)) (2 ^ 63)) refl refl e;
}
  where
    by : (s t : Bool) → nat_lt (2 ^ 128 - suc n) (2 ^ 63) ≡ s → nat_lt (2 ^ 128 - (2 ^ 128 - suc n)) (2 ^ 63) ≡ t → is_small (2 ^ 128 - suc n) ≡ true
        → cond s (pos (2 ^ 128 - suc n)) (cond t (neg_ℤ (pos (2 ^ 128 - (2 ^ 128 - suc n)))) (pos 0)) ≡ negsuc n
    by true t f g e = absurd (grind (arith, nat_tests, f, h))
    by false true f g e = omega (arith, ints, h)
    by false false f g e = absurd (grind (arith, nat_tests, e, f, g, h))

pub stands_for_whole : (c : ℕ) (z : ℤ) → c < 2 ^ 128 → unsigned_abs z ≤ 2 ^ 127 → Congruent 128 (pos c) z → Stands c z
stands_for_whole c (pos n) h b e =
    let is : n ≡ c = sym (one_number 128 c n h (omega (arith, b)) e) in
    subst (λ x. Stands x (pos n)) is (above_stands n b)
stands_for_whole c (negsuc n) h b e =
    let is : 2 ^ 128 - suc n ≡ c = sym (one_number 128 c (2 ^ 128 - suc n) h (omega (arith, b)) (joined 128 (pos c) (negsuc n) (pos (2 ^ 128 - suc n)) e (turned 128 _ _ (below_all n b)))) in
    subst (λ x. Stands x (negsuc n)) is (below_stands n b)

residue_stands : (z : ℤ) → unsigned_abs z ≤ 2 ^ 127 → Stands (residue 128 z) z
residue_stands z b = stands_for_whole (residue 128 z) z (residue-below 128 z) b (residue_congruent 128 z)

-- ---- a form read with signs

abbrev pub signed : List Part → Sum ℕ
signed f = map (λ (p : Part). (whole p.coefficient, p.atoms)) f

abbrev pub small_all : List Part → Bool
small_all f = list_all (λ p. is_small p.coefficient) f

skipped : (k : List ℕ) (c x : ℤ) (p : List ℕ) → pointwise nat_eq k p ≡ false → c *ℤ hit k p +ℤ x ≡ x
skipped k c x p e = ap (λ t. c *ℤ cond t (pos 1) (pos 0) +ℤ x) e ∙ nothing c
  where
    nothing : (c : ℤ) → c *ℤ pos 0 +ℤ x ≡ x
    nothing c = omega (arith, ints)

counted : (k : List ℕ) (c x : ℤ) (p : List ℕ) → pointwise nat_eq k p ≡ true → c *ℤ hit k p +ℤ x ≡ c +ℤ x
counted k c x p e = ap (λ t. c *ℤ cond t (pos 1) (pos 0) +ℤ x) e ∙ itself_is c
  where
    itself_is : (c : ℤ) → c *ℤ pos 1 +ℤ x ≡ c +ℤ x
    itself_is c = omega (arith, ints)

signed_none : (k : List ℕ) (f : List Part) → Before k f → total (hit k) (signed f) ≡ pos 0
signed_none k [] h = refl
signed_none k (p ∷ ps) h = skipped k (whole p.coefficient) (total (hit k) (signed ps)) p.atoms (texts_ties k p.atoms ∙ ap is_eq h.0) ∙ signed_none k ps h.1

signed_is : (f : List Part) → Clean 128 f → small_all f ≡ true → (k : List ℕ) (z : ℤ) → unsigned_abs z ≤ 2 ^ 127 → Congruent 128 (at_key k f) z → total (hit k) (signed f) ≡ z
signed_is [] c s k z b e = (stands_for_whole 0 z (omega arith) b e).itself refl
signed_is (p ∷ ps) c s k z b e =
    let both = and_parts (is_small p.coefficient) (small_all ps) s in by (pointwise nat_eq k p.atoms) refl both.0 (λ g. signed_is ps c.2 both.1 k z b g)
  where
    by : (t : Bool) → pointwise nat_eq k p.atoms ≡ t → is_small p.coefficient ≡ true → (Congruent 128 (at_key k ps) z → total (hit k) (signed ps) ≡ z) → whole p.coefficient *ℤ hit k p.atoms +ℤ total (hit k) (signed ps) ≡ z
    by true g small later =
        let is = same_numbers k p.atoms g in
        counted k (whole p.coefficient) (total (hit k) (signed ps)) p.atoms g
        ∙ ap (λ x. whole p.coefficient +ℤ x) (signed_none k ps (subst (λ x. Before x ps) (sym is) c.1)) ∙ ending (whole p.coefficient)
        ∙ (stands_for_whole p.coefficient z c.0.2 b (subst (λ x. Congruent 128 x z) (own k p ps is c.1) e)).itself small
      where
        ending : (x : ℤ) → x +ℤ pos 0 ≡ x
        ending x = omega (arith, ints)
    by false g small later = skipped k (whole p.coefficient) (total (hit k) (signed ps)) p.atoms g ∙ later (subst (λ x. Congruent 128 x z) (passed k p (at_key k ps) g) e)

small_size : (c : ℕ) → c < 2 ^ 128 → is_small c ≡ true → unsigned_abs (whole c) ≤ 2 ^ 56
small_size c h s = by (nat_lt c (2 ^ 63)) (nat_lt (2 ^ 128 - c) (2 ^ 63)) refl refl
  where
    by : (a b : Bool) → nat_lt c (2 ^ 63) ≡ a → nat_lt (2 ^ 128 - c) (2 ^ 63) ≡ b → unsigned_abs (cond a (pos c) (cond b (neg_ℤ (pos (2 ^ 128 - c))) (pos 0))) ≤ 2 ^ 56
    by true b e f = grind (arith, nat_tests, e, s, h)
    by false true e f = let n : 2 ^ 128 - c ≤ 2 ^ 56 = grind (arith, nat_tests, e, s, h) in subst (λ x. x ≤ 2 ^ 56) (sym (size_negative (pos (2 ^ 128 - c)))) n
    by false false e f = omega arith

pub small_sizes : (f : List Part) → Clean 128 f → small_all f ≡ true → AllByRecursion (λ e. unsigned_abs e.0 ≤ 2 ^ 56) (signed f)
small_sizes [] c s = tt
small_sizes (p ∷ ps) c s = let both = and_parts (is_small p.coefficient) (small_all ps) s in (small_size p.coefficient c.0.2 both.0, small_sizes ps c.2 both.1)

-- ---- coefficients, part by part

module _ (m : ℕ) where
  later_at : (p : Part) (ps qs : List Part) → Before p.atoms qs → AllByRecursion (λ (q : Part). residue m (at_key q.atoms ps) ≡ q.coefficient) qs → AllByRecursion (λ (q : Part). residue m (at_key q.atoms (p ∷ ps)) ≡ q.coefficient) qs
  later_at p ps [] h g = tt
  later_at p ps (q ∷ qs) h g =
      let greater : order q.atoms p.atoms ≡ Greater = nat_list_cmp_total.antisymm q.atoms p.atoms ∙ ap ordering_reverse h.0 in
      (ap (residue m) (passed q.atoms p (at_key q.atoms ps) (texts_ties q.atoms p.atoms ∙ ap is_eq greater)) ∙ g.0, later_at p ps qs h.1 g.1)

  each_at : (f : List Part) → Clean m f → AllByRecursion (λ (p : Part). residue m (at_key p.atoms f) ≡ p.coefficient) f
  each_at [] c = tt
  each_at (p ∷ ps) c = (ap (residue m) (own p.atoms p ps refl c.1) ∙ small_residue m p.coefficient c.0.2, later_at p ps ps c.1 (each_at ps c.2))

  small_at : (whole_form f : List Part) → AllByRecursion (λ (p : Part). residue m (at_key p.atoms whole_form) ≡ p.coefficient) f → small_all f ≡ list_all (λ k. is_small (residue m (at_key k whole_form))) (products_of f)
  small_at w [] h = refl
  small_at w (p ∷ ps) h = λ i. is_small (sym h.0 i) && small_at w ps h.1 i

-- ---- a sum and the form that stands for it

module _ (number : Tree → ℕ) where
  -- the sum by the keys of its products
  abbrev pub by_keys : Sum Tree → Sum ℕ
  by_keys s = map (λ e. (e.0, numbers number e.1)) s

  pub total_by_keys : (v : List ℕ → ℤ) (s : Sum Tree) → total v (by_keys s) ≡ total (λ p. v (numbers number p)) s
  total_by_keys v [] = refl
  total_by_keys v (e ∷ es) = ap (λ x. e.0 *ℤ v (numbers number e.1) +ℤ x) (total_by_keys v es)

  -- each coefficient is of a size that leaves its residue no choice
  abbrev pub Bounded : Sum Tree → Type 0
  Bounded s = (k : List ℕ) → unsigned_abs (numbered number k s) ≤ 2 ^ 127

  module _ (f : List Part) (s : Sum Tree) (clean : Clean 128 f) (stands_so : StandsFor number 128 f s) (bounded : Bounded s) where
    at_numbers : (p : List Tree) → Stands (form_coefficient (same_numbered number) 128 p s) (coefficient (same_numbered number) p s)
    at_numbers p =
        residue_stands (coefficient (same_numbered number) p s) (subst (λ x. unsigned_abs x ≤ 2 ^ 127) (sym (coefficient_numbered number p s)) (bounded (numbers number p)))

    same_monomials : exact_monomials (same_numbered number) s ≡ monomials (same_numbered number) 128 s
    same_monomials = λ i. filter (λ p. not ((at_numbers p).zero_alike i)) (products s)

    abbrev small_key : List ℕ → Bool
    small_key k = is_small (residue 128 (numbered number k s))

    keys_small : list_all small_key (products_of f) ≡ list_all small_key (keys number s)
    keys_small =
        both_ways (list_all small_key (products_of f)) (list_all small_key (keys number s)) (λ h. holds_of_members number 128 small_key (keys number s) (λ k e. into k h))
        (λ h. holds_of_members number 128 small_key (products_of f) (λ k e. back k h e))
      where
        into : (k : List ℕ) → list_all small_key (products_of f) ≡ true → small_key k ≡ true
        into k h = by (residue 128 (numbered number k s) == 0) refl
          where
            by : (t : Bool) → (residue 128 (numbered number k s) == 0) ≡ t → small_key k ≡ true
            by true e = ap is_small (eqb-true (residue 128 (numbered number k s)) 0 e)
            by false e = found number 128 small_key (products_of f) k h (stands 128 k f clean ∙ ap (λ n. not (n == 0)) (same_residue number 128 f s stands_so k) ∙ ap not e)

        back : (k : List ℕ) → list_all small_key (keys number s) ≡ true → is_member (pointwise nat_eq) (products_of f) k ≡ true → small_key k ≡ true
        back k h e = by (list_any (pointwise nat_eq k) (keys number s)) refl
          where
            by : (t : Bool) → list_any (pointwise nat_eq k) (keys number s) ≡ t → small_key k ≡ true
            by true g = found number 128 small_key (keys number s) k h g
            by false g = ap (λ x. is_small (residue 128 x)) (unmet number k s g) ∙ ap is_small (zero_residue 128)

    same_small : list_all (λ p. nat_lt (unsigned_abs (coefficient (same_numbered number) p s)) (2 ^ 56)) (products s) ≡ small_all f
    same_small =
        (λ i. list_all (λ p. (at_numbers p).small_alike i) (products s))
        ∙ (λ i. list_all (λ p. is_small (residue 128 (coefficient_numbered number p s i))) (products s)) ∙ sym (list_all-map small_key (numbers number) (products s)) ∙ sym keys_small
        ∙ sym (small_at 128 f f (each_at 128 f clean) ∙ (λ i. list_all (λ k. is_small (same_residue number 128 f s stands_so k i)) (products_of f)))

    pub exactly_within_is : is_exactly_within (same_numbered number) s ≡ is_exact f
    exactly_within_is =
        (λ i. nat_le (distinct_count (same_product (same_numbered number)) (same_monomials i)) 64 && list_all (λ p. nat_le (length p) 8) (same_monomials i) && same_small i)
        ∙ (λ i. nat_le (as_many number 128 f s clean stands_so i) 64 && as_small number 128 f s clean stands_so i && small_all f)

    -- all totals over whole numbers
    pub exact_totals : small_all f ≡ true → (v : List ℕ → ℤ) → total v (signed f) ≡ total (λ p. v (numbers number p)) s
    exact_totals small v =
        coefficients_decide (signed f) (by_keys s) (λ k. signed_is f clean small k (numbered number k s) (bounded k) (stands_so (hit k)) ∙ sym (total_by_keys (hit k) s)) v ∙ total_by_keys v s
