-- Whether two sums are one over whole numbers, and whether a sum is a number alone, told by the forms
-- that stand for them.
use Rattle.std.proofs.Common.{◌≡◌, ℕ, zero, suc, ◌<◌, ◌≤◌, ◌^◌, ◌==◌, ◌%◌, Bool, true, false, cond, ◌&&◌, Option, Some, None, List, [], ◌∷◌, ◌++◌, length, refl, sym, ap, subst, ◌∙◌, arith, eq-eqb, eqb-true}
use Rattle.std.specs.Prelude.{ℤ, pos, ◌+ℤ◌, ◌*ℤ◌, IsTrue}
use Rattle.std.specs.Cmp.{both_ways}
use Rattle.std.specs.Int.RustNames.{int_le, unsigned_abs}
use Rattle.std.specs.List.{list_all, AllByRecursion}
use Rattle.std.proofs.lemmas.Bool.{and_parts, and_from}
use Rattle.std.proofs.lemmas.Bool.Decides.{nat_tests}
use Rattle.std.proofs.lemmas.Int.{ints}
use Rattle.pm_wide.specs.Operations.{int_same}
use Rattle.pm_wide.specs.Residues.{residue}
use Rattle.pm_wide.specs.Types.{in_range, int128_type, value, value_of}
use Rattle.pm_wide.proofs.Residues.{residue-below}
use Rattle.pm_wide.proofs.Words.{one_value, within, value-word, word-pos}
use Rattle.pm_term.specs.Trees.{Tree}
use Rattle.ring_forms.specs.declared.form.Part.{Part}
use Rattle.ring_forms.specs.Atoms.{same_part, same_parts}
use Rattle.ring_forms.specs.Differences.{same_exactly}
use Rattle.ring_forms.specs.DifferenceTables.{number_of, number_of_part}
use Rattle.ring_forms.specs.Forms.{part_of, constant_form}
use Rattle.ring_forms.specs.RingForms.{form_coefficient, products, same_form}
use Rattle.ring_forms.specs.Sums.{Sum, coefficient}
use Rattle.ring_forms.proofs.Agreement.{Factors, all_append, coefficient_agree}
use Rattle.ring_forms.proofs.CleanForms.{Clean, at_key, hit, zero_residue, small_residue}
use Rattle.ring_forms.proofs.ExactSums.{by_keys, total_by_keys}
use Rattle.ring_forms.proofs.FixedTables.{total, numbers, StandsFor}
use Rattle.ring_forms.proofs.FormLimits.{same_numbered, numbered, coefficient_numbered, congruent_residues, agrees, same_form_keys, everywhere, same_residue, keys}
use Rattle.ring_forms.proofs.WholeTotals.{coefficients_decide}

-- ---- numbers of a limited size

pub same_out : (x y : ℤ) → int_same x y ≡ true → x ≡ y
same_out x y h = let p = and_parts (int_le x y) (int_le y x) h in omega (arith, ints, p.0, p.1)

pub same_in : (x y : ℤ) → x ≡ y → int_same x y ≡ true
same_in x y e = and_from (int_le x y) (int_le y x) (sym (omega (arith, ints))) (sym (omega (arith, ints)))

within_128 : (z : ℤ) → unsigned_abs z ≤ 2 ^ 126 → IsTrue (in_range int128_type z)
within_128 z h = within int128_type z (omega (arith, ints, h)) (omega (arith, ints, h))

one_of : (a b : ℤ) → unsigned_abs a ≤ 2 ^ 126 → unsigned_abs b ≤ 2 ^ 126 → residue 128 a ≡ residue 128 b → a ≡ b
one_of a b h g e = one_value int128_type a b (omega arith) (within_128 a h) (within_128 b g) (congruent_residues 128 a b e)

close : (a b : ℤ) → unsigned_abs a ≤ 2 ^ 126 → unsigned_abs b ≤ 2 ^ 126 → int_same a b ≡ (residue 128 a == residue 128 b)
close a b h g =
    both_ways (int_same a b) (residue 128 a == residue 128 b) (λ e. eq-eqb (residue 128 a) (residue 128 b) (ap (residue 128) (same_out a b e)))
    (λ e. same_in a b (one_of a b h g (eqb-true (residue 128 a) (residue 128 b) e)))

-- the value of the word of a residue
pub residue_value : (z : ℤ) → unsigned_abs z ≤ 2 ^ 126 → value (record { bits = residue 128 z % 2 ^ 128; ty = int128_type }) ≡ z
residue_value z h = ap (λ n. value_of int128_type n) (sym (word-pos int128_type (residue 128 z)) ∙ small_residue 128 (residue 128 z) (residue-below 128 z)) ∙ value-word int128_type z (omega arith) (within_128 z h)

-- ---- one sum

module _ (number : Tree → ℕ) where
  -- each coefficient is of a size that leaves its residue no choice
  abbrev pub Limited : Sum Tree → Type 0
  Limited s = (k : List ℕ) → unsigned_abs (numbered number k s) ≤ 2 ^ 126

  module _ (s t : Sum Tree) (h : Limited s) (g : Limited t) where
    at_product : (p : List Tree) → int_same (coefficient (same_numbered number) p s) (coefficient (same_numbered number) p t)
        ≡ (form_coefficient (same_numbered number) 128 p s == form_coefficient (same_numbered number) 128 p t)
    at_product p =
        close (coefficient (same_numbered number) p s) (coefficient (same_numbered number) p t)
        (subst (λ z. unsigned_abs z ≤ 2 ^ 126) (sym (coefficient_numbered number p s)) (h (numbers number p)))
        (subst (λ z. unsigned_abs z ≤ 2 ^ 126) (sym (coefficient_numbered number p t)) (g (numbers number p)))

    each : (ps : List (List Tree)) → list_all (λ p. int_same (coefficient (same_numbered number) p s) (coefficient (same_numbered number) p t)) ps
        ≡ list_all (λ p. form_coefficient (same_numbered number) 128 p s == form_coefficient (same_numbered number) 128 p t) ps
    each [] = refl
    each (p ∷ ps) = λ i. at_product p i && each ps i

    pub exactly_is : same_exactly (same_numbered number) s t ≡ same_form (same_numbered number) 128 s t
    exactly_is = each (products s ++ products t)

    -- sums that are one have one total, whatever products count
    pub one_total : same_exactly (same_numbered number) s t ≡ true → (v : List ℕ → ℤ) → total (λ p. v (numbers number p)) s ≡ total (λ p. v (numbers number p)) t
    one_total e v =
        let parts = and_parts (list_all (agrees number 128 s t) (keys number s)) (list_all (agrees number 128 s t) (keys number t)) (sym (same_form_keys number 128 s t) ∙ sym exactly_is ∙ e) in
        sym (total_by_keys number v s)
        ∙ coefficients_decide (by_keys number s) (by_keys number t)
        (λ k. total_by_keys number (hit k) s ∙ one_of (numbered number k s) (numbered number k t) (h k) (g k) (everywhere number 128 s t parts.0 parts.1 k) ∙ sym (total_by_keys number (hit k) t)) v
        ∙ total_by_keys number v t

-- tests that agree tell the same
module _ (P : Tree → Type 0) (s t : Tree → Tree → Bool) (agree : (a b : Tree) → P a → P b → s a b ≡ t a b) (f g : Sum Tree) (h : Factors P f) (i : Factors P g) where
  abbrev AllP : List (List Tree) → Type 0
  AllP ps = AllByRecursion (λ p. AllByRecursion P p) ps

  of_products : (e : Sum Tree) → Factors P e → AllP (products e)
  of_products [] k = tt
  of_products (e ∷ es) k = (k.0, of_products es k.1)

  tests : (ps : List (List Tree)) → AllP ps → list_all (λ p. int_same (coefficient s p f) (coefficient s p g)) ps ≡ list_all (λ p. int_same (coefficient t p f) (coefficient t p g)) ps
  tests [] k = refl
  tests (p ∷ ps) k = λ j. int_same (coefficient_agree P s t agree p f k.0 h j) (coefficient_agree P s t agree p g k.0 i j) && tests ps k.1 j

  pub exactly_agree : same_exactly s f g ≡ same_exactly t f g
  exactly_agree = tests (products f ++ products g) (all_append (λ p. AllByRecursion P p) (products f) (products g) (of_products f h) (of_products g i))

-- ---- a number alone

-- a form that is a number alone is that of its coefficient without atoms
abbrev Told : ℕ → List Part → ℤ → Option ℕ
Told m f z = cond (same_parts f (constant_form m z)) (Some (residue m z)) None

one_part : (m : ℕ) (atoms : List ℕ) (c : ℕ) → 0 < c → c < 2 ^ m
    → number_of_part (record { atoms = atoms; coefficient = c }) ≡ Told m (record { atoms = atoms; coefficient = c } ∷ []) (at_key [] (record { atoms = atoms; coefficient = c } ∷ []))
one_part m [] zero h g = absurd (omega arith)
one_part m [] (suc n) h g =
    let is : at_key [] (record { atoms = []; coefficient = suc n } ∷ []) ≡ pos (suc n) = omega (arith, ints) in
    let left : residue m (at_key [] (record { atoms = []; coefficient = suc n } ∷ [])) ≡ suc n = ap (residue m) is ∙ small_residue m (suc n) g in
    let some : (suc n == 0) ≡ false = grind (arith, nat_tests) in
    let same : same_parts (record { atoms = []; coefficient = suc n } ∷ []) (part_of [] (suc n) []) ≡ true
    = ap (λ b. same_parts (record { atoms = []; coefficient = suc n } ∷ []) (cond b [] (record { atoms = []; coefficient = suc n } ∷ []))) some ∙ ap (λ b. b && true) (eq-eqb (suc n) (suc n) refl) in
    ap (λ b. cond b (Some (suc n)) None) (sym same)
    ∙ (λ i. cond (same_parts (record { atoms = []; coefficient = suc n } ∷ []) (part_of [] (sym left i) [])) (Some (sym left i)) None)
one_part m (a ∷ rest) c h g =
    let is : at_key [] (record { atoms = a ∷ rest; coefficient = c } ∷ []) ≡ pos 0 = nothing (pos c) in
    let left : residue m (at_key [] (record { atoms = a ∷ rest; coefficient = c } ∷ [])) ≡ 0 = ap (residue m) is ∙ zero_residue m in
    ap (λ b. cond b (Some c) None) some
    ∙ (λ i. cond (same_parts (record { atoms = a ∷ rest; coefficient = c } ∷ []) (part_of [] (sym left i) [])) (Some (sym left i)) None)
  where
    some : (suc (length rest) == 0) ≡ false
    some = grind (arith, nat_tests)

    nothing : (x : ℤ) → x *ℤ pos 0 +ℤ pos 0 ≡ pos 0
    nothing x = omega (arith, ints)

more_parts : (m : ℕ) (p q : Part) (rest : List Part) (z : ℤ) → same_parts (p ∷ q ∷ rest) (constant_form m z) ≡ false
more_parts m p q rest z = by (residue m z == 0)
  where
    never : (b : Bool) → (b && false) ≡ false
    never true = refl
    never false = refl

    by : (b : Bool) → same_parts (p ∷ q ∷ rest) (cond b [] (record { atoms = []; coefficient = residue m z } ∷ [])) ≡ false
    by true = refl
    by false = never (same_part p (record { atoms = []; coefficient = residue m z }))

number_at : (m : ℕ) (f : List Part) → Clean m f → number_of f ≡ Told m f (at_key [] f)
number_at m [] c = λ i. cond (same_parts [] (part_of [] (sym (zero_residue m) i) [])) (Some (sym (zero_residue m) i)) None
number_at m (p ∷ []) c = one_part m p.atoms p.coefficient c.0.1 c.0.2
number_at m (p ∷ q ∷ rest) c = ap (λ b. cond b (Some (residue m (at_key [] (p ∷ q ∷ rest)))) None) (sym (more_parts m p q rest (at_key [] (p ∷ q ∷ rest))))

pub number_told : (number : Tree → ℕ) (m : ℕ) (f : List Part) (s : Sum Tree) → Clean m f → StandsFor number m f s
    → number_of f ≡ cond (same_parts f (constant_form m (coefficient (same_numbered number) [] s))) (Some (residue m (coefficient (same_numbered number) [] s))) None
number_told number m f s c h =
    let e : residue m (at_key [] f) ≡ residue m (coefficient (same_numbered number) [] s) = same_residue number m f s h [] ∙ ap (residue m) (sym (coefficient_numbered number [] s)) in
    number_at m f c ∙ (λ i. cond (same_parts f (part_of [] (e i) [])) (Some (e i)) None)
