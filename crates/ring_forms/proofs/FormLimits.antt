-- The coefficients of a sum and of the form that stands for it agree; so two sums are one form where
-- the forms that stand for them are, and a sum is within the limits where its form is.
use Rattle.std.proofs.Common.{◌≡◌, ℕ, ◌==◌, Bool, true, false, not, cond, ◌&&◌, ◌||◌, List, [], ◌∷◌, ◌++◌, map, length, refl, sym, ap, ◌∙◌, eq-eqb, eqb-true, subst, arith, suc, ◌+◌}
use Rattle.std.specs.Prelude.{ℤ, pos, ◌+ℤ◌, ◌*ℤ◌, nat_le, nat_eq}
use Rattle.std.specs.Cmp.{both_ways}
use Rattle.std.specs.Cmp.Lexicographic.{slice_cmp, pointwise, nat_list_eq_equiv, texts_ties}
use Rattle.std.specs.List.{list_all, list_any, filter, IsDistinct}
use Rattle.std.specs.Ordering.{nat_cmp}
use Rattle.std.specs.Set.{is_member, unique_keys, distinct_count}
use Rattle.std.proofs.lemmas.Bool.{and_parts, and_from}
use Rattle.std.proofs.lemmas.Int.{ints}
use Rattle.std.proofs.lemmas.List.Folds.{list_all-map, list_all-append}
use Rattle.std.proofs.lemmas.Map.Keys.{IsDistinct-from_sorted}
use Rattle.std.proofs.lemmas.Map.Made.{length-from_keys, is_member-filter}
use Rattle.pm_wide.specs.Congruence.{Congruent}
use Rattle.pm_wide.specs.Residues.{residue}
use Rattle.pm_wide.proofs.Congruence.{turned, joined}
use Rattle.pm_wide.proofs.Residues.{residue_congruent}
use Rattle.pm_wide.proofs.Words.{same_word}
use Rattle.pm_term.specs.Trees.{Tree}
use Rattle.ring_forms.specs.declared.form.Part.{Part}
use Rattle.ring_forms.specs.Atoms.{same_parts}
use Rattle.ring_forms.specs.Forms.{with_atom, joined_atoms, within_limits}
use Rattle.ring_forms.specs.RingForms.{form_coefficient, products, same_form, monomials, is_within}
use Rattle.ring_forms.specs.Sums.{Sum, same_product, coefficient}
use Rattle.ring_forms.proofs.AtomLemmas.{form_decides}
use Rattle.ring_forms.proofs.CleanForms.{Clean, products_of, strictly_sorted, hit, at_key, one_form, stands, zero_residue}
use Rattle.ring_forms.proofs.FixedTables.{total, numbers, StandsFor}
use Rattle.ring_forms.proofs.FormLemmas.{same_numbers, numbers_same}
use Rattle.ring_forms.proofs.Products.{by_number, same_key}

pub one_residue : (m : ℕ) (a b : ℤ) → Congruent m a b → residue m a ≡ residue m b
one_residue m a b h = same_word (record { width = m; unsigned = true }) a b h

pub congruent_residues : (m : ℕ) (a b : ℤ) → residue m a ≡ residue m b → Congruent m a b
congruent_residues m a b e = joined m a (pos (residue m b)) b (subst (λ n. Congruent m a (pos n)) e (turned m _ _ (residue_congruent m a))) (residue_congruent m b)

module _ (number : Tree → ℕ) where
  abbrev pub same_numbered : Tree → Tree → Bool
  same_numbered = by_number number

  -- the coefficient of a product that goes by numbers
  abbrev pub numbered : List ℕ → Sum Tree → ℤ
  numbered k s = total (λ p. hit k (numbers number p)) s

  pub coefficient_numbered : (p : List Tree) (s : Sum Tree) → coefficient same_numbered p s ≡ numbered (numbers number p) s
  coefficient_numbered p [] = refl
  coefficient_numbered p (e ∷ es) = λ i. counted (same_product same_numbered p e.1) (pointwise nat_eq (numbers number p) (numbers number e.1)) e.0 (same_key number p e.1) i +ℤ coefficient_numbered p es i
    where
      times : (t : Bool) (c : ℤ) → cond t c (pos 0) ≡ c *ℤ cond t (pos 1) (pos 0)
      times true c = omega (arith, ints)
      times false c = omega (arith, ints)

      counted : (s t : Bool) (c : ℤ) → s ≡ t → cond s c (pos 0) ≡ c *ℤ cond t (pos 1) (pos 0)
      counted s t c e = ap (λ b. cond b c (pos 0)) e ∙ times t c

  -- the keys of a sum's products
  abbrev pub keys : Sum Tree → List (List ℕ)
  keys s = map (numbers number) (products s)

  pub unmet : (k : List ℕ) (s : Sum Tree) → list_any (pointwise nat_eq k) (keys s) ≡ false → numbered k s ≡ pos 0
  unmet k [] h = refl
  unmet k (e ∷ es) h = by (pointwise nat_eq k (numbers number e.1)) h (unmet k es)
    where
      nothing : (c x : ℤ) → x ≡ pos 0 → c *ℤ pos 0 +ℤ x ≡ pos 0
      nothing c x z = omega (arith, ints, z)

      by : (t : Bool) → (t || list_any (pointwise nat_eq k) (keys es)) ≡ false → (list_any (pointwise nat_eq k) (keys es) ≡ false → numbered k es ≡ pos 0)
          → e.0 *ℤ cond t (pos 1) (pos 0) +ℤ numbered k es ≡ pos 0
      by true g later = cc
      by false g later = nothing e.0 (numbered k es) (later g)

  module _ (m : ℕ) where
    form_numbered : (p : List Tree) (s : Sum Tree) → form_coefficient same_numbered m p s ≡ residue m (numbered (numbers number p) s)
    form_numbered p s = ap (residue m) (coefficient_numbered p s)

    -- ---- one form

    abbrev pub agrees : (s t : Sum Tree) → (k : List ℕ) → Bool
    agrees s t k = residue m (numbered k s) == residue m (numbered k t)

    pub same_form_keys : (s t : Sum Tree) → same_form same_numbered m s t ≡ (list_all (agrees s t) (keys s) && list_all (agrees s t) (keys t))
    same_form_keys s t =
        (λ i. list_all (λ p. form_numbered p s i == form_numbered p t i) (products s ++ products t))
        ∙ list_all-append (λ p. residue m (numbered (numbers number p) s) == residue m (numbered (numbers number p) t)) (products s) (products t)
        ∙ (λ i. sym (list_all-map (agrees s t) (numbers number) (products s)) i && sym (list_all-map (agrees s t) (numbers number) (products t)) i)

    pub found : (test : List ℕ → Bool) (ks : List (List ℕ)) (k : List ℕ) → list_all test ks ≡ true → list_any (pointwise nat_eq k) ks ≡ true → test k ≡ true
    found test [] k h g = cc
    found test (q ∷ qs) k h g = let both = and_parts (test q) (list_all test qs) h in by (pointwise nat_eq k q) refl g both.0 (found test qs k both.1)
      where
        by : (t : Bool) → pointwise nat_eq k q ≡ t → (t || list_any (pointwise nat_eq k) qs) ≡ true → test q ≡ true → (list_any (pointwise nat_eq k) qs ≡ true → test k ≡ true) → test k ≡ true
        by true e i j later = ap test (same_numbers k q e) ∙ j
        by false e i j later = later i

    pub everywhere : (s t : Sum Tree) → list_all (agrees s t) (keys s) ≡ true → list_all (agrees s t) (keys t) ≡ true → (k : List ℕ) → residue m (numbered k s) ≡ residue m (numbered k t)
    everywhere s t h g k = by (list_any (pointwise nat_eq k) (keys s)) (list_any (pointwise nat_eq k) (keys t)) refl refl
      where
        equal : agrees s t k ≡ true → residue m (numbered k s) ≡ residue m (numbered k t)
        equal e = eqb-true (residue m (numbered k s)) (residue m (numbered k t)) e

        by : (a b : Bool) → list_any (pointwise nat_eq k) (keys s) ≡ a → list_any (pointwise nat_eq k) (keys t) ≡ b → residue m (numbered k s) ≡ residue m (numbered k t)
        by true b e f = equal (found (agrees s t) (keys s) k h e)
        by false true e f = equal (found (agrees s t) (keys t) k g f)
        by false false e f = ap (residue m) (unmet k s e ∙ sym (unmet k t f))

    module _ (f : List Part) (s : Sum Tree) (h : StandsFor number m f s) where
      pub same_residue : (k : List ℕ) → residue m (at_key k f) ≡ residue m (numbered k s)
      same_residue k = one_residue m (at_key k f) (numbered k s) (h (hit k))

    all_agree : (s t : Sum Tree) → ((k : List ℕ) → residue m (numbered k s) ≡ residue m (numbered k t)) → (ks : List (List ℕ)) → list_all (agrees s t) ks ≡ true
    all_agree s t h [] = refl
    all_agree s t h (k ∷ ks) = and_from (agrees s t k) (list_all (agrees s t) ks) (eq-eqb (residue m (numbered k s)) (residue m (numbered k t)) (h k)) (all_agree s t h ks)

    -- two sums are one form exactly where the clean forms that stand for them are one
    pub one_form_decides : (f g : List Part) (s t : Sum Tree) → Clean m f → Clean m g → StandsFor number m f s → StandsFor number m g t → same_form same_numbered m s t ≡ same_parts f g
    one_form_decides f g s t cf cg h i =
        both_ways (same_form same_numbered m s t) (same_parts f g)
        (λ e. (let both = and_parts (list_all (agrees s t) (keys s)) (list_all (agrees s t) (keys t)) (sym (same_form_keys s t) ∙ e) in
        (form_decides f g).1
        (one_form m f g cf cg
        (λ k. congruent_residues m (at_key k f) (at_key k g) (same_residue f s h k ∙ everywhere s t both.0 both.1 k ∙ sym (same_residue g t i k))))))
        (λ e. (let is = (form_decides f g).0 e in
        let each : (k : List ℕ) → residue m (numbered k s) ≡ residue m (numbered k t) = λ k. sym (same_residue f s h k) ∙ ap (λ x. residue m (at_key k x)) is ∙ same_residue g t i k in
        same_form_keys s t ∙ and_from (list_all (agrees s t) (keys s)) (list_all (agrees s t) (keys t)) (all_agree s t each (keys s)) (all_agree s t each (keys t))))

    -- ---- limits

    abbrev some_coefficient : Sum Tree → List ℕ → Bool
    some_coefficient s k = not (residue m (numbered k s) == 0)

    filter_map : (test : List ℕ → Bool) (ps : List (List Tree)) → map (numbers number) (filter (λ p. test (numbers number p)) ps) ≡ filter test (map (numbers number) ps)
    filter_map test [] = refl
    filter_map test (p ∷ ps) = by (test (numbers number p)) (filter_map test ps)
      where
        by : (t : Bool) → map (numbers number) (filter (λ q. test (numbers number q)) ps) ≡ filter test (map (numbers number) ps)
            → map (numbers number) (cond t (p ∷ filter (λ q. test (numbers number q)) ps) (filter (λ q. test (numbers number q)) ps)) ≡ cond t (numbers number p ∷ filter test (map (numbers number) ps)) (filter test (map (numbers number) ps))
        by true e = ap (λ xs. numbers number p ∷ xs) e
        by false e = e

    monomial_keys : (s : Sum Tree) → map (numbers number) (monomials same_numbered m s) ≡ filter (some_coefficient s) (keys s)
    monomial_keys s = (λ i. map (numbers number) (filter (λ p. not (form_numbered p s i == 0)) (products s))) ∙ filter_map (some_coefficient s) (products s)

    member_map : (k : List Tree) (ps : List (List Tree)) → is_member (same_product same_numbered) ps k ≡ is_member (pointwise nat_eq) (map (numbers number) ps) (numbers number k)
    member_map k [] = refl
    member_map k (p ∷ ps) = λ i. same_key number k p i || member_map k ps i

    unique_map : (ps : List (List Tree)) → map (numbers number) (unique_keys (same_product same_numbered) ps) ≡ unique_keys (pointwise nat_eq) (map (numbers number) ps)
    unique_map [] = refl
    unique_map (p ∷ ps) =
        by (is_member (same_product same_numbered) ps p) (unique_map ps)
        ∙ (λ i. cond (member_map p ps i) (unique_keys (pointwise nat_eq) (map (numbers number) ps)) (numbers number p ∷ unique_keys (pointwise nat_eq) (map (numbers number) ps)))
      where
        by : (t : Bool) → map (numbers number) (unique_keys (same_product same_numbered) ps) ≡ unique_keys (pointwise nat_eq) (map (numbers number) ps)
            → map (numbers number) (cond t (unique_keys (same_product same_numbered) ps) (p ∷ unique_keys (same_product same_numbered) ps))
            ≡ cond t (unique_keys (pointwise nat_eq) (map (numbers number) ps)) (numbers number p ∷ unique_keys (pointwise nat_eq) (map (numbers number) ps))
        by true e = e
        by false e = ap (λ xs. numbers number p ∷ xs) e

    length_map : {X Y : Type 0} (g : X → Y) (xs : List X) → length (map g xs) ≡ length xs
    length_map g [] = refl
    length_map g (x ∷ xs) = ap suc (length_map g xs)

    count_map : (ps : List (List Tree)) → distinct_count (same_product same_numbered) ps ≡ distinct_count (pointwise nat_eq) (map (numbers number) ps)
    count_map ps = sym (length_map (numbers number) (unique_keys (same_product same_numbered) ps)) ∙ ap length (unique_map ps)

    -- the products of a form are the monomials of the sum
    members : (f : List Part) (s : Sum Tree) → Clean m f → StandsFor number m f s → (k : List ℕ) → is_member (pointwise nat_eq) (products_of f) k ≡ is_member (pointwise nat_eq) (filter (some_coefficient s) (keys s)) k
    members f s c h k =
        stands m k f c ∙ ap (λ n. not (n == 0)) (same_residue f s h k) ∙ by (list_any (pointwise nat_eq k) (keys s)) refl
        ∙ sym (is_member-filter nat_list_eq_equiv (some_coefficient s) k (λ x e. ap (some_coefficient s) (same_numbers k x e)) (keys s))
      where
        by : (t : Bool) → list_any (pointwise nat_eq k) (keys s) ≡ t → some_coefficient s k ≡ (t && some_coefficient s k)
        by true e = refl
        by false e = ap (λ x. not (residue m x == 0)) (unmet k s e) ∙ ap (λ n. not (n == 0)) (zero_residue m)

    distinct : (f : List Part) → Clean m f → IsDistinct (pointwise nat_eq) (products_of f)
    distinct f c = subst (λ e. IsDistinct e (products_of f)) (λ i x y. sym (texts_ties x y) i) (IsDistinct-from_sorted (slice_cmp nat_cmp) (products_of f) (strictly_sorted m f c))

    pub as_many : (f : List Part) (s : Sum Tree) → Clean m f → StandsFor number m f s → distinct_count (same_product same_numbered) (monomials same_numbered m s) ≡ length f
    as_many f s c h =
        count_map (monomials same_numbered m s) ∙ ap (distinct_count (pointwise nat_eq)) (monomial_keys s)
        ∙ sym (length-from_keys nat_list_eq_equiv (products_of f) (filter (some_coefficient s) (keys s)) (distinct f c) (members f s c h))
        ∙ length_map (λ (p : Part). p.atoms) f

    -- ---- degrees

    pub holds_of_members : (test : List ℕ → Bool) (ks : List (List ℕ)) → ((k : List ℕ) → is_member (pointwise nat_eq) ks k ≡ true → test k ≡ true) → list_all test ks ≡ true
    holds_of_members test [] h = refl
    holds_of_members test (k ∷ ks) h =
        and_from (test k) (list_all test ks) (h k (ap (λ t. t || list_any (pointwise nat_eq k) ks) (numbers_same k k refl)))
        (holds_of_members test ks (λ q e. h q (either (pointwise nat_eq q k) e)))
      where
        either : (t : Bool) {r : Bool} → r ≡ true → (t || r) ≡ true
        either true e = refl
        either false e = e

    all_by_members : (test : List ℕ → Bool) (xs ys : List (List ℕ)) → ((k : List ℕ) → is_member (pointwise nat_eq) xs k ≡ is_member (pointwise nat_eq) ys k) → list_all test xs ≡ list_all test ys
    all_by_members test xs ys e =
        both_ways (list_all test xs) (list_all test ys) (λ h. holds_of_members test ys (λ k g. found test xs k h (e k ∙ g))) (λ h. holds_of_members test xs (λ k g. found test ys k h (sym (e k) ∙ g)))

    with_atom_length : (a : ℕ) (bs : List ℕ) → length (with_atom a bs) ≡ suc (length bs)
    with_atom_length a [] = refl
    with_atom_length a (b ∷ bs) = by (nat_le a b) (with_atom_length a bs)
      where
        by : (t : Bool) → length (with_atom a bs) ≡ suc (length bs) → length (cond t (a ∷ b ∷ bs) (b ∷ with_atom a bs)) ≡ suc (suc (length bs))
        by true e = refl
        by false e = ap suc e

    joined_length : (xs ys : List ℕ) → length (joined_atoms xs ys) ≡ length xs + length ys
    joined_length [] ys = omega arith
    joined_length (x ∷ xs) ys = let e = joined_length xs (with_atom x ys) in let f = with_atom_length x ys in omega (arith, e, f)

    pub key_length : (p : List Tree) → length (numbers number p) ≡ length p
    key_length p = let e = joined_length (map number p) [] in let f = length_map number p in omega (arith, e, f)

    abbrev small : List ℕ → Bool
    small k = nat_le (length k) 8

    pub as_small : (f : List Part) (s : Sum Tree) → Clean m f → StandsFor number m f s → list_all (λ p. nat_le (length p) 8) (monomials same_numbered m s) ≡ list_all (λ (p : Part). nat_le (length p.atoms) 8) f
    as_small f s c h =
        (λ i. list_all (λ p. nat_le (sym (key_length p) i) 8) (monomials same_numbered m s))
        ∙ sym (list_all-map small (numbers number) (monomials same_numbered m s)) ∙ ap (list_all small) (monomial_keys s)
        ∙ sym (all_by_members small (products_of f) (filter (some_coefficient s) (keys s)) (members f s c h)) ∙ list_all-map small (λ (p : Part). p.atoms) f

    pub within_is : (f : List Part) (s : Sum Tree) → Clean m f → StandsFor number m f s → is_within same_numbered m s ≡ within_limits f
    within_is f s c h = λ i. nat_le (as_many f s c h i) 64 && as_small f s c h i
