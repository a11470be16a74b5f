-- The form of a term over a table that has its atoms: it has the coefficients of the term
-- multiplied out.
use Rattle.std.proofs.Common.{◌≡◌, ℕ, ◌<◌, ◌^◌, Bool, true, false, cond, List, [], ◌∷◌, ◌++◌, map, refl, sym, ap, subst, ◌∙◌, arith}
use Rattle.std.specs.Prelude.{ℤ, pos, negsuc, neg_ℤ, ◌+ℤ◌, ◌*ℤ◌, unwrap_or}
use Rattle.std.proofs.lemmas.Int.{ints}
use Rattle.pm_ops.specs.declared.code.Code.{Code}
use Rattle.pm_ops.specs.declared.code.Code.TheVariants.{Minus, Mult, Negate, BitNot, Lshift}
use Rattle.pm_wide.specs.Congruence.{Congruent}
use Rattle.pm_wide.proofs.Congruence.{same, joined, sums, negatives}
use Rattle.pm_wide.proofs.Whole.{mul_comm, mul_assoc, mul-add, neg-mul, one-mul}
use Rattle.pm_term.specs.Trees.{Tree, name, constant, node, Trees, nil, cons, type_of}
use Rattle.ring_forms.specs.declared.atom.Atom.{Atom}
use Rattle.ring_forms.specs.declared.atom.Atom.TheVariants.{Name, Operation}
use Rattle.ring_forms.specs.declared.atom.AtomOperand.{AtomOperand}
use Rattle.ring_forms.specs.declared.form.Part.{Part}
use Rattle.ring_forms.specs.Atoms.{atom_number}
use Rattle.ring_forms.specs.Forms.{constant_form, atom_form, sum_form, negated_form, product_form, joined_atoms}
use Rattle.ring_forms.specs.RingForms.{goes_by_parts, constant_places, unary_sum, binary_sum, atom, expanded}
use Rattle.ring_forms.specs.TableForms.{unary_form, binary_form, combined_form}
use Rattle.ring_forms.specs.Sums.{Sum, negated, scaled, product}
use Rattle.ring_forms.proofs.CleanForms.{Clean, AreClean, constant_clean, atom_clean, combined_clean}
use Rattle.ring_forms.proofs.FormTotals.{form_total, equal_congruent, constant_total, atom_total, sum_total, negated_total, times_form, product_total, congruent_counts}
use Rattle.ring_forms.proofs.Products.{key, key-append, sorted_itself, sorted_rising}

abbrev mutual
  pub form_over : List Atom → ℕ → Tree → List Part
  form_over table m (name version ty) = atom_form (atom_number table (Name version ty))
  form_over table m (constant word) = constant_form m (pos word.bits)
  form_over table m (node code ty args) =
      cond (goes_by_parts m code ty args) (combined_form m code (unwrap_or (constant_places ty args) 0) (forms_over table m args))
      (atom_form (atom_number table (Operation code ty (operands_over table args))))

  pub forms_over : List Atom → ℕ → Trees → List (List Part)
  forms_over table m nil = []
  forms_over table m (cons t ts) = form_over table m t ∷ forms_over table m ts

  pub operands_over : List Atom → Trees → List AtomOperand
  operands_over table nil = []
  operands_over table (cons t ts) = record { ty = type_of t; form = form_over table (type_of t).width t } ∷ operands_over table ts

-- the entry of an atom, and its number; a constant is none
abbrev pub entry : List Atom → Tree → Atom
entry table (name version ty) = Name version ty
entry table (constant word) = Name 0 word.ty
entry table (node code ty args) = Operation code ty (operands_over table args)

abbrev pub number : List Atom → Tree → ℕ
number table t = atom_number table (entry table t)

-- ---- totals of sums

abbrev pub total : {X : Type 0} → (List X → ℤ) → Sum X → ℤ
total v [] = pos 0
total v (e ∷ es) = e.0 *ℤ v e.1 +ℤ total v es

pub total_append : {X : Type 0} (v : List X → ℤ) (f g : Sum X) → total v (f ++ g) ≡ total v f +ℤ total v g
total_append v [] g = omega (arith, ints)
total_append v (e ∷ es) g = ap (λ x. e.0 *ℤ v e.1 +ℤ x) (total_append v es g) ∙ grouped (e.0 *ℤ v e.1) (total v es) (total v g)
  where
    grouped : (a b c : ℤ) → a +ℤ (b +ℤ c) ≡ (a +ℤ b) +ℤ c
    grouped a b c = omega (arith, ints)

pub total_negated : {X : Type 0} (v : List X → ℤ) (f : Sum X) → total v (negated f) ≡ neg_ℤ (total v f)
total_negated v [] = refl
total_negated v (e ∷ es) = (λ i. neg-mul e.0 (v e.1) i +ℤ total_negated v es i) ∙ both (e.0 *ℤ v e.1) (total v es)
  where
    both : (a b : ℤ) → neg_ℤ a +ℤ neg_ℤ b ≡ neg_ℤ (a +ℤ b)
    both a b = omega (arith, ints)

moved : (a b c : ℤ) → (a *ℤ b) *ℤ c ≡ b *ℤ (a *ℤ c)
moved a b c = ap (λ z. z *ℤ c) (mul_comm a b) ∙ mul_assoc b a c

pub total_scaled : {X : Type 0} (v : List X → ℤ) (c : ℤ) (f : Sum X) → total v (scaled c f) ≡ total (λ p. c *ℤ v p) f
total_scaled v c [] = refl
total_scaled v c (e ∷ es) = λ i. moved c e.0 (v e.1) i +ℤ total_scaled v c es i

total_times : {X : Type 0} (v : List X → ℤ) (c : ℤ) (p : List X) (g : Sum X) → total v (map (λ f. (c *ℤ f.0, p ++ f.1)) g) ≡ c *ℤ total (λ q. v (p ++ q)) g
total_times v c p [] = omega (arith, ints)
total_times v c p (e ∷ es) = (λ i. mul_assoc c e.0 (v (p ++ e.1)) i +ℤ total_times v c p es i) ∙ sym (mul-add c (e.0 *ℤ v (p ++ e.1)) (total (λ q. v (p ++ q)) es))

pub total_product : {X : Type 0} (v : List X → ℤ) (f g : Sum X) → total v (product f g) ≡ total (λ p. total (λ q. v (p ++ q)) g) f
total_product v [] g = refl
total_product v (e ∷ es) g =
    total_append v (map (λ f. (e.0 *ℤ f.0, e.1 ++ f.1)) g) (product es g) ∙ (λ i. total_times v e.0 e.1 g i +ℤ total_product v es g i)

-- ---- a form stands for a sum

module _ (number : Tree → ℕ) where
  -- the numbers of a product of atoms, sorted
  abbrev pub numbers : List Tree → List ℕ
  numbers p = key number p

  -- whatever products count, the form has the total of the sum modulo 2 ^ m
  abbrev pub StandsFor : ℕ → List Part → Sum Tree → Type 0
  StandsFor m f s = (v : List ℕ → ℤ) → Congruent m (form_total v f) (total (λ p. v (numbers p)) s)

  to : (m : ℕ) (a b c : ℤ) → Congruent m a b → b ≡ c → Congruent m a c
  to m a b c h e = subst (Congruent m a) e h

  module _ (m : ℕ) where
    negated_stands : (f : List Part) (s : Sum Tree) → StandsFor m f s → StandsFor m (negated_form m f) (negated s)
    negated_stands f s h v =
        to m _ _ _ (joined m _ _ _ (negated_total v m f) (negatives m _ _ (h v))) (sym (total_negated (λ p. v (numbers p)) s))

    pub unary_stands : (code : Code) (f : List Part) (s : Sum Tree) → StandsFor m f s → StandsFor m (unary_form m code f) (unary_sum code s)
    unary_stands Negate f s h = negated_stands f s h
    unary_stands BitNot f s h =
        λ v. joined m _ _ _ (sum_total v m _ (negated_form m f)) (sums m _ _ _ _ (constant_total v m (negsuc 0)) (negated_stands f s h v))
    unary_stands _ f s h = h

    sum_stands : (f g : List Part) (s t : Sum Tree) → StandsFor m f s → StandsFor m g t → StandsFor m (sum_form m f g) (s ++ t)
    sum_stands f g s t h i v = to m _ _ _ (joined m _ _ _ (sum_total v m f g) (sums m _ _ _ _ (h v) (i v))) (sym (total_append (λ p. v (numbers p)) s t))

    product_stands : (f g : List Part) (s t : Sum Tree) → StandsFor m f s → StandsFor m g t → StandsFor m (product_form m f g) (product s t)
    product_stands f g s t h i v =
        to m _ (total (λ p. total (λ q. v (joined_atoms (numbers p) (numbers q))) t) s) _
        (joined m _ _ _ (product_total v m f g)
        (joined m _ (form_total (λ p. total (λ q. v (joined_atoms p (numbers q))) t) f) _
        (congruent_counts (times_form v m g) (λ p. total (λ q. v (joined_atoms p (numbers q))) t) m (λ p. i (λ q. v (joined_atoms p q))) f)
        (h (λ p. total (λ q. v (joined_atoms p (numbers q))) t))))
        ((λ j. total (λ p. total (λ q. v (sym (key-append number p q) j)) t) s) ∙ sym (total_product (λ p. v (numbers p)) s t))

    shift_stands : (z : ℤ) (f : List Part) (s : Sum Tree) → StandsFor m f s → StandsFor m (product_form m f (constant_form m z)) (scaled z s)
    shift_stands z f s h v =
        to m _ (total (λ p. z *ℤ v (joined_atoms (numbers p) [])) s) _
        (joined m _ _ _ (product_total v m f (constant_form m z))
        (joined m _ (form_total (λ p. z *ℤ v (joined_atoms p [])) f) _
        (congruent_counts (times_form v m (constant_form m z)) (λ p. z *ℤ v (joined_atoms p [])) m (λ p. constant_total (λ q. v (joined_atoms p q)) m z) f)
        (h (λ p. z *ℤ v (joined_atoms p [])))))
        ((λ j. total (λ p. z *ℤ v (sorted_itself (numbers p) (sorted_rising (map number p)) j)) s) ∙ sym (total_scaled (λ p. v (numbers p)) z s))

    pub binary_stands : (code : Code) (places : ℕ) (f g : List Part) (s t : Sum Tree) → StandsFor m f s → StandsFor m g t → StandsFor m (binary_form m code places f g) (binary_sum code places s t)
    binary_stands Minus places f g s t h i = sum_stands f (negated_form m g) s (negated t) h (negated_stands g t i)
    binary_stands Mult places f g s t h i = product_stands f g s t h i
    binary_stands Lshift places f g s t h i = shift_stands (pos (2 ^ places)) f s h
    binary_stands _ places f g s t h i = sum_stands f g s t h i

    pub atom_stands : (t : Tree) → StandsFor m (atom_form (number t)) (atom t)
    atom_stands t v = equal_congruent m _ _ (atom_total v m (number t) ∙ once (v (number t ∷ [])))
      where
        once : (x : ℤ) → x ≡ pos 1 *ℤ x +ℤ pos 0
        once x = let e = one-mul x in omega (arith, ints, e)

    pub constant_stands : (z : ℤ) → StandsFor m (constant_form m z) ((z, []) ∷ [])
    constant_stands z v = to m _ (z *ℤ v []) _ (constant_total v m z) (ending (z *ℤ v []))
      where
        ending : (x : ℤ) → x ≡ x +ℤ pos 0
        ending x = omega (arith, ints)

    pub nothing_stands : StandsFor m [] []
    nothing_stands v = same m (pos 0)

    pub chosen : (b : Bool) (f g : List Part) (s t : Sum Tree) → StandsFor m f s → StandsFor m g t → StandsFor m (cond b f g) (cond b s t)
    chosen true f g s t h i = h
    chosen false f g s t h i = i

module _ (table : List Atom) where
  abbrev own : Tree → ℕ
  own t = number table t

  module _ (m : ℕ) where
    pub stands_for : (t : Tree) → StandsFor own m (form_over table m t) (expanded m t)
    stands_for (name version ty) = atom_stands own m (name version ty)
    stands_for (constant word) = constant_stands own m (pos word.bits)
    stands_for (node code ty nil) = chosen own m (goes_by_parts m code ty nil) _ _ _ _ (nothing_stands own m) (atom_stands own m (node code ty nil))
    stands_for (node code ty (cons t nil)) =
        chosen own m (goes_by_parts m code ty (cons t nil)) _ _ _ _ (unary_stands own m code (form_over table m t) (expanded m t) (stands_for t)) (atom_stands own m (node code ty (cons t nil)))
    stands_for (node code ty (cons t (cons u nil))) =
        chosen own m (goes_by_parts m code ty (cons t (cons u nil))) _ _ _ _
        (binary_stands own m code (unwrap_or (constant_places ty (cons t (cons u nil))) 0) (form_over table m t) (form_over table m u) (expanded m t) (expanded m u) (stands_for t) (stands_for u))
        (atom_stands own m (node code ty (cons t (cons u nil))))
    stands_for (node code ty (cons t (cons u (cons r rs)))) =
        chosen own m (goes_by_parts m code ty (cons t (cons u (cons r rs)))) _ _ _ _ (nothing_stands own m) (atom_stands own m (node code ty (cons t (cons u (cons r rs)))))

  module _ (m : ℕ) (some : 0 < m) where
    chosen_clean : (b : Bool) (f g : List Part) → Clean m f → Clean m g → Clean m (cond b f g)
    chosen_clean true f g h i = h
    chosen_clean false f g h i = i

    mutual
      pub clean_over : (t : Tree) → Clean m (form_over table m t)
      clean_over (name version ty) = atom_clean m (number table (name version ty)) some
      clean_over (constant word) = constant_clean m (pos word.bits)
      clean_over (node code ty args) =
          chosen_clean (goes_by_parts m code ty args) _ _ (combined_clean m code (unwrap_or (constant_places ty args) 0) (forms_over table m args) (all_clean_over args))
          (atom_clean m (number table (node code ty args)) some)

      pub all_clean_over : (ts : Trees) → AreClean m (forms_over table m ts)
      all_clean_over nil = tt
      all_clean_over (cons t ts) = (clean_over t, all_clean_over ts)
