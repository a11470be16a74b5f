-- An exact form is read exactly where the definition says that there is one, and has its
-- coefficients.
use Rattle.std.proofs.Common.{◌≡◌, ℕ, zero, suc, ◌+◌, ◌-◌, ◌*◌, ◌<◌, ◌≤◌, ◌^◌, ◌==◌, ◌||◌, Bool, true, false, cond, ◌&&◌, List, [], ◌∷◌, ◌++◌, length, refl, sym, ap, subst, ◌∙◌, arith, ltb-true, ltb-false, pow_mono, pow-suc, mul-le-mul, le_refl}
use Rattle.std.specs.Prelude.{ℤ, pos, negsuc, ◌+ℤ◌, ◌-ℤ◌, ◌*ℤ◌, nat_lt, nat_le, nat_eq, bytes_eq, IsTrue}
use Rattle.std.specs.Cmp.Lexicographic.{pointwise}
use Rattle.std.specs.Int.RustNames.{unsigned_abs}
use Rattle.std.specs.List.{list_all}
use Rattle.std.proofs.lemmas.Bool.{and_parts}
use Rattle.std.proofs.lemmas.Bool.Decides.{nat_tests}
use Rattle.std.proofs.lemmas.Int.{ints}
use Rattle.pm_ops.specs.declared.code.Code.{Code}
use Rattle.pm_ops.specs.declared.code.Code.TheVariants.{Plus, Minus, Mult, Negate, BitNot, Cond}
use Rattle.pm_ops.specs.Names.{code_name}
use Rattle.pm_wide.specs.Types.{Ty, Word, IsWord, same_type, value}
use Rattle.pm_wide.specs.Typing.{well_typed_operation}
use Rattle.pm_wide.proofs.Results.{same_type_is}
use Rattle.pm_wide.proofs.Values.{width_small}
use Rattle.pm_term.specs.Trees.{Tree, name, constant, node, Trees, nil, cons, type_of, types_of, operations, operations_of, IsWellTyped, AreWellTyped}
use Rattle.ring_forms.specs.declared.atom.Atom.TheVariants.{Name, Operation}
use Rattle.ring_forms.specs.declared.exact.Reading.{Reading}
use Rattle.ring_forms.specs.declared.form.Part.{Part}
use Rattle.ring_forms.specs.Atoms.{atom_number}
use Rattle.ring_forms.specs.ExactForms.{goes_exactly, exactly_expanded, all_exactly, is_exactly_within, has_exact_parts, have_exact_parts}
use Rattle.ring_forms.specs.ExactTables.{is_exact}
use Rattle.ring_forms.specs.Forms.{constant_form, atom_form, within_limits, joined_atoms}
use Rattle.ring_forms.specs.RingForms.{unary_sum, binary_sum, combined_sum, atom, have_full_forms, same_atom}
use Rattle.ring_forms.specs.Sums.{Sum, negated, product}
use Rattle.ring_forms.specs.TableForms.{combined_form}
use Rattle.ring_forms.proofs.Agreement.{Factors, exactly_within_agree}
use Rattle.ring_forms.proofs.CleanForms.{Clean, AreClean, hit, constant_clean, atom_clean, combined_clean}
use Rattle.ring_forms.proofs.ExactReadings.{exact_over, exacts_over, Met, AllMet, exact_limited, all_exact_limited}
use Rattle.ring_forms.proofs.ExactSums.{signed, small_all, small_sizes, Bounded, exactly_within_is, exact_totals}
use Rattle.ring_forms.proofs.FixedTables.{operands_over, entry, total, total_append, total_negated, total_product, numbers, StandsFor, unary_stands, binary_stands, atom_stands, constant_stands, nothing_stands, chosen}
use Rattle.ring_forms.proofs.FormLimits.{same_numbered}
use Rattle.ring_forms.proofs.Products.{key-append}
use Rattle.ring_forms.proofs.Readings.{IsIn, HasFull, full_limited}
use Rattle.ring_forms.proofs.SameAtoms.{unary_factors, binary_factors, entries_decide, operands_are, atoms_agree, full_forms_are}
use Rattle.ring_forms.proofs.WholeTotals.{size_sum, size_negative, total_size, hit_size}

double : (n : ℕ) → 2 ^ n ≤ 2 ^ (n - 1) + 2 ^ (n - 1)
double zero = omega arith
double (suc n) =
    let e : suc n - 1 ≡ n = omega arith in
    let p = pow-suc 2 n in
    subst (λ k. 2 ^ suc n ≤ 2 ^ k + 2 ^ k) (sym e) (omega (arith, p))

-- the value of a signed word is of a size of at most 2 ^ 127
signed_size : (w : Word) → IsWord w → w.ty.unsigned ≡ false → unsigned_abs (value w) ≤ 2 ^ 127
signed_size w h u = by (nat_lt w.bits (2 ^ (w.ty.width - 1))) refl
  where
    half : 2 ^ (w.ty.width - 1) ≤ 2 ^ 127
    half = let small = width_small w.ty h.1 in let le : w.ty.width - 1 ≤ 127 = omega (arith, small) in pow_mono le

    twice : 2 ^ w.ty.width ≤ 2 ^ (w.ty.width - 1) + 2 ^ (w.ty.width - 1)
    twice = double w.ty.width

    by : (t : Bool) → nat_lt w.bits (2 ^ (w.ty.width - 1)) ≡ t → unsigned_abs (cond (w.ty.unsigned || nat_lt w.bits (2 ^ (w.ty.width - 1))) (pos w.bits) (pos w.bits -ℤ pos (2 ^ w.ty.width))) ≤ 2 ^ 127
    by true e =
        let less = ltb-true w.bits (2 ^ (w.ty.width - 1)) e in
        subst (λ t. unsigned_abs (cond t (pos w.bits) (pos w.bits -ℤ pos (2 ^ w.ty.width))) ≤ 2 ^ 127) (sym ((λ i. u i || e i))) (omega (arith, less, half))
    by false e =
        let more = ltb-false w.bits (2 ^ (w.ty.width - 1)) e in
        let below = h.0 in
        subst (λ t. unsigned_abs (cond t (pos w.bits) (pos w.bits -ℤ pos (2 ^ w.ty.width))) ≤ 2 ^ 127) (sym ((λ i. u i || e i))) (lower w.bits (2 ^ w.ty.width) (2 ^ (w.ty.width - 1)) below twice more half)
      where
        lower : (n m k : ℕ) → n < m → m ≤ k + k → k ≤ n → k ≤ 2 ^ 127 → unsigned_abs (pos n -ℤ pos m) ≤ 2 ^ 127
        lower n m k a b c d = omega (arith, ints, a, b, c, d)

-- operands of what goes by parts have its type
pub one_type : (code : Code) (ty s : Ty) → goes_exactly code ≡ true → IsTrue (well_typed_operation code ty (s ∷ [])) → s ≡ ty
unfolding well_typed_operation
one_type Negate ty s g w = same_type_is s ty w
one_type BitNot ty s g w = same_type_is s ty w
one_type _ ty s g w = cc

pub two_types : (code : Code) (ty s t : Ty) → goes_exactly code ≡ true → IsTrue (well_typed_operation code ty (s ∷ t ∷ [])) → (s ≡ ty) × (t ≡ ty)
unfolding well_typed_operation
two_types Plus ty s t g w = let both = and_parts (same_type s ty) (same_type t ty) w in (same_type_is s ty both.0, same_type_is t ty both.1)
two_types Minus ty s t g w = let both = and_parts (same_type s ty) (same_type t ty) w in (same_type_is s ty both.0, same_type_is t ty both.1)
two_types Mult ty s t g w = let both = and_parts (same_type s ty) (same_type t ty) w in (same_type_is s ty both.0, same_type_is t ty both.1)
two_types _ ty s t g w = cc

pub no_three : (code : Code) (ty s t u : Ty) (us : List Ty) → goes_exactly code ≡ true → IsTrue (well_typed_operation code ty (s ∷ t ∷ u ∷ us)) → ⊥
unfolding well_typed_operation
no_three code ty s t u (v ∷ vs) g w = cc
no_three Cond ty s t u [] g w = cc
no_three _ ty s t u [] g w = cc

module _ (r : Reading) where
  -- the number of an atom among those met
  abbrev pub met_number : Tree → ℕ
  met_number t = atom_number r.atoms (entry r.inner t)

  abbrev at_numbers : List Tree → List ℕ
  at_numbers p = numbers met_number p

  -- ---- what is read stands for the term multiplied out

  pub exact_stands : (t : Tree) → StandsFor met_number 128 (exact_over r t) (exactly_expanded t)
  exact_stands (name version ty) = atom_stands met_number 128 (name version ty)
  exact_stands (constant word) = constant_stands met_number 128 (value word)
  exact_stands (node code ty nil) = chosen met_number 128 (goes_exactly code) _ _ _ _ (nothing_stands met_number 128) (atom_stands met_number 128 (node code ty nil))
  exact_stands (node code ty (cons t nil)) =
      chosen met_number 128 (goes_exactly code) _ _ _ _ (unary_stands met_number 128 code (exact_over r t) (exactly_expanded t) (exact_stands t)) (atom_stands met_number 128 (node code ty (cons t nil)))
  exact_stands (node code ty (cons t (cons u nil))) =
      chosen met_number 128 (goes_exactly code) _ _ _ _
      (binary_stands met_number 128 code 0 (exact_over r t) (exact_over r u) (exactly_expanded t) (exactly_expanded u) (exact_stands t) (exact_stands u))
      (atom_stands met_number 128 (node code ty (cons t (cons u nil))))
  exact_stands (node code ty (cons t (cons u (cons s rs)))) =
      chosen met_number 128 (goes_exactly code) _ _ _ _ (nothing_stands met_number 128) (atom_stands met_number 128 (node code ty (cons t (cons u (cons s rs)))))

  chosen_clean : (b : Bool) (f g : List Part) → Clean 128 f → Clean 128 g → Clean 128 (cond b f g)
  chosen_clean true f g h i = h
  chosen_clean false f g h i = i

  mutual
    pub exact_clean : (t : Tree) → Clean 128 (exact_over r t)
    exact_clean (name version ty) = atom_clean 128 (met_number (name version ty)) (omega arith)
    exact_clean (constant word) = constant_clean 128 (value word)
    exact_clean (node code ty args) =
        chosen_clean (goes_exactly code) _ _ (combined_clean 128 code 0 (exacts_over r args) (all_exact_clean args)) (atom_clean 128 (met_number (node code ty args)) (omega arith))

    pub all_exact_clean : (ts : Trees) → AreClean 128 (exacts_over r ts)
    all_exact_clean nil = tt
    all_exact_clean (cons t ts) = (exact_clean t, all_exact_clean ts)

  -- ---- forms that are read exactly

  -- a form with few small coefficients has the totals of the sum over whole numbers
  pub record Good (f : List Part) (s : Sum Tree) : Type 0 where
    pub small : small_all f ≡ true
    pub few : length f ≤ 64
    pub clean : Clean 128 f
    pub totals : (v : List ℕ → ℤ) → total v (signed f) ≡ total (λ p. v (numbers met_number p)) s

  length_signed : (f : List Part) → length (signed f) ≡ length f
  length_signed [] = refl
  length_signed (p ∷ ps) = ap suc (length_signed ps)

  at_most_64 : (f : List Part) → within_limits f ≡ true → length f ≤ 64
  at_most_64 f h = let le = (and_parts (nat_le (length f) 64) (list_all (λ p. nat_le (length p.atoms) 8) f) h).0 in grind (arith, nat_tests, le)

  good : (f : List Part) (s : Sum Tree) → Clean 128 f → StandsFor met_number 128 f s → Bounded met_number s → is_exact f ≡ true → Good f s
  good f s c h b e =
      let both = and_parts (within_limits f) (small_all f) e in
      record { small = both.1; few = at_most_64 f both.0; clean = c; totals = exact_totals met_number f s c h b both.1 }

  -- totals of what is read exactly are of a limited size
  limited_total : (f : List Part) (s : Sum Tree) → Good f s → (b : ℕ) (v : List ℕ → ℤ) → ((p : List ℕ) → unsigned_abs (v p) ≤ b) → unsigned_abs (total (λ p. v (at_numbers p)) s) ≤ 64 * (2 ^ 56 * b)
  limited_total f s g b v h =
      let size = total_size (2 ^ 56) b v h (signed f) (small_sizes f g.clean g.small) in
      let long : length (signed f) ≤ 64 = subst (λ n. n ≤ 64) (sym (length_signed f)) g.few in
      let more : length (signed f) * (2 ^ 56 * b) ≤ 64 * (2 ^ 56 * b) = mul-le-mul long (le_refl (2 ^ 56 * b)) in
      subst (λ z. unsigned_abs z ≤ 64 * (2 ^ 56 * b)) (g.totals v) (omega (arith, size, more))

  pub limited_coefficient : (f : List Part) (s : Sum Tree) → Good f s → (k : List ℕ) → unsigned_abs (total (λ p. hit k (at_numbers p)) s) ≤ 2 ^ 62
  limited_coefficient f s g k = let size = limited_total f s g 1 (hit k) (hit_size k) in omega (arith, size)

  pub negated_bound : (f : List Part) (s : Sum Tree) → Good f s → (k : List ℕ) → unsigned_abs (total (λ p. hit k (at_numbers p)) (negated s)) ≤ 2 ^ 62
  negated_bound f s g k =
      subst (λ n. n ≤ 2 ^ 62) (sym (ap unsigned_abs (total_negated (λ p. hit k (at_numbers p)) s) ∙ size_negative (total (λ p. hit k (at_numbers p)) s))) (limited_coefficient f s g k)

  unary_bound : (code : Code) (f : List Part) (s : Sum Tree) → Good f s → Bounded met_number (unary_sum code s)
  unary_bound Negate f s g k = let size = negated_bound f s g k in omega (arith, size)
  unary_bound BitNot f s g k =
      let size = negated_bound f s g k in
      let first = minus_one (hit k (at_numbers [])) (hit_size k (at_numbers [])) in
      let whole_size = size_sum (negsuc 0 *ℤ hit k (at_numbers [])) (total (λ p. hit k (at_numbers p)) (negated s)) in
      omega (arith, size, first, whole_size)
    where
      minus_one : (x : ℤ) → unsigned_abs x ≤ 1 → unsigned_abs (negsuc 0 *ℤ x) ≤ 1
      minus_one x h = omega (arith, ints, h)
  unary_bound _ f s g k = let size = limited_coefficient f s g k in omega (arith, size)

  sum_bound : (k : List ℕ) (s t : Sum Tree) → unsigned_abs (total (λ p. hit k (at_numbers p)) s) ≤ 2 ^ 62 → unsigned_abs (total (λ p. hit k (at_numbers p)) t) ≤ 2 ^ 62
      → unsigned_abs (total (λ p. hit k (at_numbers p)) (s ++ t)) ≤ 2 ^ 127
  sum_bound k s t h i =
      let whole_size = size_sum (total (λ p. hit k (at_numbers p)) s) (total (λ p. hit k (at_numbers p)) t) in
      subst (λ z. unsigned_abs z ≤ 2 ^ 127) (sym (total_append (λ p. hit k (at_numbers p)) s t)) (omega (arith, whole_size, h, i))

  product_bound : (f g : List Part) (s t : Sum Tree) → Good f s → Good g t → (k : List ℕ) → unsigned_abs (total (λ p. hit k (at_numbers p)) (product s t)) ≤ 2 ^ 127
  product_bound f g s t x y k =
      let inner : (p : List ℕ) → unsigned_abs (total (λ q. hit k (joined_atoms p (at_numbers q))) t) ≤ 64 * (2 ^ 56 * 1) = λ p. limited_total g t y 1 (λ q. hit k (joined_atoms p q)) (λ q. hit_size k (joined_atoms p q)) in
      let size = limited_total f s x (64 * (2 ^ 56 * 1)) (λ p. total (λ q. hit k (joined_atoms p (at_numbers q))) t) inner in
      subst (λ z. unsigned_abs z ≤ 2 ^ 127)
      ((λ j. total (λ p. total (λ q. hit k (sym (key-append met_number p q) j)) t) s) ∙ sym (total_product (λ p. hit k (at_numbers p)) s t)) (omega (arith, size))

  binary_bound : (code : Code) → goes_exactly code ≡ true → (f g : List Part) (s t : Sum Tree) → Good f s → Good g t → Bounded met_number (binary_sum code 0 s t)
  binary_bound Plus e f g s t x y k = sum_bound k s t (limited_coefficient f s x k) (limited_coefficient g t y k)
  binary_bound Minus e f g s t x y k = sum_bound k s (negated t) (limited_coefficient f s x k) (negated_bound g t y k)
  binary_bound Mult e f g s t x y k = product_bound f g s t x y k
  binary_bound Negate e f g s t x y k = sum_bound k s t (limited_coefficient f s x k) (limited_coefficient g t y k)
  binary_bound BitNot e f g s t x y k = sum_bound k s t (limited_coefficient f s x k) (limited_coefficient g t y k)
  binary_bound _ e f g s t x y k = cc

  nothing_bound : Bounded met_number []
  nothing_bound k = omega arith

  alone_bound : (c : ℤ) (p : List Tree) → unsigned_abs c ≤ 2 ^ 127 → Bounded met_number ((c, p) ∷ [])
  alone_bound c p h k = by (pointwise nat_eq k (at_numbers p))
    where
      by : (t : Bool) → unsigned_abs (c *ℤ cond t (pos 1) (pos 0) +ℤ pos 0) ≤ 2 ^ 127
      by true = omega (arith, ints, h)
      by false = omega (arith, ints)

  atom_good : (n : ℕ) (t : Tree) → StandsFor met_number 128 (atom_form n) (atom t) → Good (atom_form n) (atom t)
  atom_good n t h = good (atom_form n) (atom t) (atom_clean 128 n (omega arith)) h (alone_bound (pos 1) (t ∷ []) (omega arith)) refl

  -- ---- each part

  abbrev Signed : Tree → Type 0
  Signed t = (type_of t).unsigned ≡ false

  signed_as : (s t : Ty) → s ≡ t → t.unsigned ≡ false → s.unsigned ≡ false
  signed_as s t e h = ap (λ (x : Ty). x.unsigned) e ∙ h

  cond_true : {A : Type 0} (b : Bool) (x y : A) → b ≡ true → cond b x y ≡ x
  cond_true b x y e = ap (λ t. cond t x y) e

  cond_false : {A : Type 0} (b : Bool) (x y : A) → b ≡ false → cond b x y ≡ y
  cond_false b x y e = ap (λ t. cond t x y) e

  abbrev GoodRead : Tree → Type 0
  GoodRead t = Good (exact_over r t) (exactly_expanded t)

  bound_read : (t : Tree) → IsWellTyped t → Signed t → Bounded met_number (exactly_expanded t) → is_exact (exact_over r t) ≡ true → GoodRead t
  bound_read t w u b e = good (exact_over r t) (exactly_expanded t) (exact_clean t) (exact_stands t) b e

  bounded_chosen : (b : Bool) (x y : Sum Tree) → b ≡ true → Bounded met_number x → Bounded met_number (cond b x y)
  bounded_chosen true x y e h = h
  bounded_chosen false x y e h = cc

  abbrev whole_part : Code → Trees → Bool
  whole_part code args = is_exact (combined_form 128 code 0 (exacts_over r args))

  -- the sum of an operation by parts is bounded where its operands are read exactly
  mutual
    parts_bound : (code : Code) (ty : Ty) (args : Trees) → goes_exactly code ≡ true → IsWellTyped (node code ty args) → Signed (node code ty args) → all_exact_limited r args ≡ true → Bounded met_number (combined_sum code 0 (all_exactly args))
    parts_bound code ty nil e w u h = nothing_bound
    parts_bound code ty (cons t nil) e w u h =
        let one = (and_parts (exact_limited r t) true h).0 in unary_bound code (exact_over r t) (exactly_expanded t) (good_read t w.2.0 (signed_as (type_of t) ty (one_type code ty (type_of t) e w.1) u) one)
    parts_bound code ty (cons t (cons s nil)) e w u h =
        let types = two_types code ty (type_of t) (type_of s) e w.1 in
        let first = (and_parts (exact_limited r t) (exact_limited r s && true) h).0 in
        let second = (and_parts (exact_limited r s) true (and_parts (exact_limited r t) (exact_limited r s && true) h).1).0 in
        binary_bound code e (exact_over r t) (exact_over r s) (exactly_expanded t) (exactly_expanded s) (good_read t w.2.0 (signed_as (type_of t) ty types.0 u) first)
        (good_read s w.2.1.0 (signed_as (type_of s) ty types.1 u) second)
    parts_bound code ty (cons t (cons s (cons x xs))) e w u h = nothing_bound

    pub good_read : (t : Tree) → IsWellTyped t → Signed t → exact_limited r t ≡ true → GoodRead t
    good_read (name version ty) w u h = atom_good (met_number (name version ty)) (name version ty) (atom_stands met_number 128 (name version ty))
    good_read (constant word) w u h = good (constant_form 128 (value word)) ((value word, []) ∷ []) (constant_clean 128 (value word)) (constant_stands met_number 128 (value word)) (alone_bound (value word) [] (signed_size word w.1 u)) h
    good_read (node code ty args) w u h = by (goes_exactly code) refl h (λ e k. parts_bound code ty args e w u k)
      where
        by : (b : Bool) → goes_exactly code ≡ b → cond b (whole_part code args && all_exact_limited r args) (full_limited r.inner args) ≡ true
            → (goes_exactly code ≡ true → all_exact_limited r args ≡ true → Bounded met_number (combined_sum code 0 (all_exactly args)))
            → GoodRead (node code ty args)
        by true e k f =
            let both = and_parts (whole_part code args) (all_exact_limited r args) k in
            bound_read (node code ty args) w u (bounded_chosen (goes_exactly code) (combined_sum code 0 (all_exactly args)) (atom (node code ty args)) e (f e both.1))
            (ap is_exact (cond_true (goes_exactly code) (combined_form 128 code 0 (exacts_over r args)) (atom_form (met_number (node code ty args))) e) ∙ both.0)
        by false e k f =
            subst (λ x. Good x (exactly_expanded (node code ty args))) (sym (cond_false (goes_exactly code) (combined_form 128 code 0 (exacts_over r args)) (atom_form (met_number (node code ty args))) e))
            (subst (Good (atom_form (met_number (node code ty args)))) (sym (cond_false (goes_exactly code) (combined_sum code 0 (all_exactly args)) (atom (node code ty args)) e))
            (atom_good (met_number (node code ty args)) (node code ty args) (atom_stands met_number 128 (node code ty args))))

  -- ---- the same atoms

  abbrev pub IsMet : Tree → Type 0
  IsMet (name version ty) = IsIn r.atoms (Name version ty)
  IsMet (constant word) = ⊥
  IsMet (node code ty args) = IsIn r.atoms (Operation code ty (operands_over r.inner args)) × HasFull r.inner args

  abbrev pub HeldMet : ℕ → Tree → Type 0
  HeldMet depth t = IsMet t × IsWellTyped t × (operations t < depth)

  pub met_agree : (depth : ℕ) (a b : Tree) → HeldMet depth a → HeldMet depth b → same_atom depth a b ≡ (met_number a == met_number b)
  met_agree zero a b h i = absurd (let o = h.2 in omega (arith, o))
  met_agree (suc depth) (constant word) b h i = absurd h.0
  met_agree (suc depth) (name v s) (constant word) h i = absurd i.0
  met_agree (suc depth) (name v s) (name w t) h i = entries_decide r.atoms (Name v s) (Name w t) h.0
  met_agree (suc depth) (name v s) (node d t ys) h i = entries_decide r.atoms (Name v s) (Operation d t (operands_over r.inner ys)) h.0
  met_agree (suc depth) (node c s xs) (constant word) h i = absurd i.0
  met_agree (suc depth) (node c s xs) (name w t) h i = entries_decide r.atoms (Operation c s (operands_over r.inner xs)) (Name w t) h.0.0
  met_agree (suc depth) (node c s xs) (node d t ys) h i =
      ap (λ x. bytes_eq (code_name c) (code_name d) && same_type s t && x)
      (operands_are r.inner depth (atoms_agree r.inner depth) xs ys h.0.1 i.0.1 h.1.2 i.1.2 (let o = h.2 in omega (arith, o)) (let o = i.2 in omega (arith, o)))
      ∙ entries_decide r.atoms (Operation c s (operands_over r.inner xs)) (Operation d t (operands_over r.inner ys)) h.0.0

  module _ (depth : ℕ) where
    held_alone : (t : Tree) → HeldMet depth t → Factors (HeldMet depth) (atom t)
    held_alone t h = ((h, tt), tt)

    held_chosen : (b : Bool) (f g : Sum Tree) → (b ≡ true → Factors (HeldMet depth) f) → (b ≡ false → Factors (HeldMet depth) g) → Factors (HeldMet depth) (cond b f g)
    held_chosen true f g h i = h refl
    held_chosen false f g h i = i refl

    held_atom : (code : Code) (ty : Ty) (args : Trees) → Met r (node code ty args) → IsWellTyped (node code ty args) → operations (node code ty args) < depth → goes_exactly code ≡ false
        → Factors (HeldMet depth) (atom (node code ty args))
    held_atom code ty args h w o e = held_alone (node code ty args) (h.1 e, w, o)

    pub held_factors : (t : Tree) → Met r t → IsWellTyped t → operations t < depth → Factors (HeldMet depth) (exactly_expanded t)
    held_factors (name version ty) h w o = held_alone (name version ty) (h, w, o)
    held_factors (constant word) h w o = (tt, tt)
    held_factors (node code ty nil) h w o = held_chosen (goes_exactly code) _ _ (λ e. tt) (held_atom code ty nil h w o)
    held_factors (node code ty (cons t nil)) h w o =
        held_chosen (goes_exactly code) _ _ (λ e. unary_factors (HeldMet depth) code (exactly_expanded t) (held_factors t (h.0 e).0 w.2.0 (omega arith))) (held_atom code ty (cons t nil) h w o)
    held_factors (node code ty (cons t (cons u nil))) h w o =
        held_chosen (goes_exactly code) _ _
        (λ e. binary_factors (HeldMet depth) code 0 (exactly_expanded t) (exactly_expanded u) (held_factors t (h.0 e).0 w.2.0 (omega arith)) (held_factors u (h.0 e).1.0 w.2.1.0 (omega arith)))
        (held_atom code ty (cons t (cons u nil)) h w o)
    held_factors (node code ty (cons t (cons u (cons s rs)))) h w o = held_chosen (goes_exactly code) _ _ (λ e. tt) (held_atom code ty (cons t (cons u (cons s rs))) h w o)

    within_read : (t : Tree) → Met r t → IsWellTyped t → operations t < depth → Bounded met_number (exactly_expanded t) → is_exactly_within (same_atom depth) (exactly_expanded t) ≡ is_exact (exact_over r t)
    within_read t h w o b =
        exactly_within_agree (HeldMet depth) (same_atom depth) (same_numbered met_number) (met_agree depth) (exactly_expanded t) (held_factors t h w o)
        ∙ exactly_within_is met_number (exact_over r t) (exactly_expanded t) (exact_clean t) (exact_stands t) b

    both_false : (x y : Bool) → (x && false) ≡ (y && false)
    both_false true true = refl
    both_false true false = refl
    both_false false true = refl
    both_false false false = refl

    mutual
      pub exact_parts_are : (t : Tree) → Met r t → IsWellTyped t → Signed t → operations t < depth → has_exact_parts (same_atom depth) t ≡ exact_limited r t
      exact_parts_are (name version ty) h w u o = refl
      exact_parts_are (constant word) h w u o = within_read (constant word) h w o (alone_bound (value word) [] (signed_size word w.1 u))
      exact_parts_are (node code ty args) h w u o =
          by (goes_exactly code) refl (λ e. all_parts_are code ty args e w.1 (h.0 e) w.2 u (omega arith)) (λ e. full_forms_are r.inner depth args (h.1 e).1 w.2 (omega arith)) (λ e k. parts_bound code ty args e w u k)
        where
          whole_is : goes_exactly code ≡ true → Bounded met_number (combined_sum code 0 (all_exactly args)) → is_exactly_within (same_atom depth) (exactly_expanded (node code ty args)) ≡ whole_part code args
          whole_is e b =
              within_read (node code ty args) h w o (bounded_chosen (goes_exactly code) (combined_sum code 0 (all_exactly args)) (atom (node code ty args)) e b)
              ∙ ap is_exact (cond_true (goes_exactly code) (combined_form 128 code 0 (exacts_over r args)) (atom_form (met_number (node code ty args))) e)

          inner : (b : Bool) → all_exact_limited r args ≡ b → goes_exactly code ≡ true → (all_exact_limited r args ≡ true → Bounded met_number (combined_sum code 0 (all_exactly args)))
              → (is_exactly_within (same_atom depth) (exactly_expanded (node code ty args)) && b) ≡ (whole_part code args && b)
          inner true k e f = ap (λ x. x && true) (whole_is e (f k))
          inner false k e f = both_false (is_exactly_within (same_atom depth) (exactly_expanded (node code ty args))) (whole_part code args)

          by : (b : Bool) → goes_exactly code ≡ b → (goes_exactly code ≡ true → have_exact_parts (same_atom depth) args ≡ all_exact_limited r args)
              → (goes_exactly code ≡ false → have_full_forms (same_atom depth) args ≡ full_limited r.inner args)
              → (goes_exactly code ≡ true → all_exact_limited r args ≡ true → Bounded met_number (combined_sum code 0 (all_exactly args)))
              → cond b (is_exactly_within (same_atom depth) (exactly_expanded (node code ty args)) && have_exact_parts (same_atom depth) args) (have_full_forms (same_atom depth) args)
              ≡ cond b (whole_part code args && all_exact_limited r args) (full_limited r.inner args)
          by true e f g k =
              ap (λ x. is_exactly_within (same_atom depth) (exactly_expanded (node code ty args)) && x) (f e) ∙ inner (all_exact_limited r args) refl e (k e)
          by false e f g k = g e

      all_parts_are : (code : Code) (ty : Ty) (args : Trees) → goes_exactly code ≡ true → IsTrue (well_typed_operation code ty (types_of args)) → AllMet r args → AreWellTyped args → ty.unsigned ≡ false → operations_of args < depth
          → have_exact_parts (same_atom depth) args ≡ all_exact_limited r args
      all_parts_are code ty nil e w h x u o = refl
      all_parts_are code ty (cons t nil) e w h x u o = ap (λ b. b && true) (exact_parts_are t h.0 x.0 (signed_as (type_of t) ty (one_type code ty (type_of t) e w) u) (omega arith))
      all_parts_are code ty (cons t (cons s nil)) e w h x u o =
          let types = two_types code ty (type_of t) (type_of s) e w in
          λ i. exact_parts_are t h.0 x.0 (signed_as (type_of t) ty types.0 u) (omega arith) i && (exact_parts_are s h.1.0 x.1.0 (signed_as (type_of s) ty types.1 u) (omega arith) i && true)
      all_parts_are code ty (cons t (cons s (cons y ys))) e w h x u o = absurd (no_three code ty (type_of t) (type_of s) (type_of y) (types_of ys) e w)
