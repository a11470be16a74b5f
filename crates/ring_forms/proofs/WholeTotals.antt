-- Sums with whole coefficients: their sizes, and that the coefficients decide all totals.
use Rattle.std.proofs.Common.{◌≡◌, ℕ, zero, suc, ◌+◌, ◌*◌, ◌≤◌, Bool, true, false, cond, List, [], ◌∷◌, ◌++◌, length, refl, sym, ap, subst, ◌∙◌, arith, mul-le-mul, le_refl}
use Rattle.std.specs.Prelude.{ℤ, pos, neg_ℤ, ◌+ℤ◌, ◌*ℤ◌, nat_eq}
use Rattle.std.specs.Int.RustNames.{unsigned_abs}
use Rattle.std.specs.Cmp.Lexicographic.{pointwise}
use Rattle.std.specs.List.{AllByRecursion}
use Rattle.std.proofs.lemmas.Int.{ints, unsigned_abs-mul}
use Rattle.pm_wide.proofs.Whole.{mul-add, mul_comm}
use Rattle.ring_forms.specs.Sums.{Sum, negated}
use Rattle.ring_forms.proofs.CleanForms.{hit}
use Rattle.ring_forms.proofs.FixedTables.{total, total_append, total_negated}
use Rattle.ring_forms.proofs.FormLemmas.{same_numbers, numbers_same}

-- ---- sizes

pub size_sum : (a b : ℤ) → unsigned_abs (a +ℤ b) ≤ unsigned_abs a + unsigned_abs b
size_sum a b = omega (arith, ints)

pub size_negative : (a : ℤ) → unsigned_abs (neg_ℤ a) ≡ unsigned_abs a
size_negative a = omega (arith, ints)

-- coefficients of a size below c, and products that count b at most
pub total_size : (c b : ℕ) (v : List ℕ → ℤ) → ((p : List ℕ) → unsigned_abs (v p) ≤ b) → (f : Sum ℕ) → AllByRecursion (λ e. unsigned_abs e.0 ≤ c) f → unsigned_abs (total v f) ≤ length f * (c * b)
total_size c b v h [] g = omega arith
total_size c b v h (e ∷ es) g =
    let first : unsigned_abs (e.0 *ℤ v e.1) ≤ c * b = subst (λ n. n ≤ c * b) (sym (unsigned_abs-mul e.0 (v e.1))) (mul-le-mul g.0 (h e.1)) in
    let rest = total_size c b v h es g.1 in
    let whole = size_sum (e.0 *ℤ v e.1) (total v es) in
    let grown : suc (length es) * (c * b) ≡ c * b + length es * (c * b) = omega arith in
    subst (λ n. unsigned_abs (e.0 *ℤ v e.1 +ℤ total v es) ≤ n) (sym grown) (omega (arith, first, rest, whole))

pub hit_size : (k p : List ℕ) → unsigned_abs (hit k p) ≤ 1
hit_size k p = by (pointwise nat_eq k p)
  where
    by : (t : Bool) → unsigned_abs (cond t (pos 1) (pos 0)) ≤ 1
    by true = omega arith
    by false = omega arith

-- ---- coefficients decide

without : List ℕ → Sum ℕ → Sum ℕ
without q [] = []
without q (e ∷ es) = cond (pointwise nat_eq q e.1) (without q es) (e ∷ without q es)

without_shorter : (q : List ℕ) (f : Sum ℕ) → length (without q f) ≤ length f
unfolding without
without_shorter q [] = omega arith
without_shorter q (e ∷ es) = by (pointwise nat_eq q e.1) (without_shorter q es)
  where
    by : (t : Bool) → length (without q es) ≤ length es → length (cond t (without q es) (e ∷ without q es)) ≤ suc (length es)
    by true h = omega arith
    by false h = omega arith

-- what a product counts, apart from the rest
split : (v : List ℕ → ℤ) (q : List ℕ) (f : Sum ℕ) → total v f ≡ total v (without q f) +ℤ v q *ℤ total (hit q) f
unfolding without
split v q [] = let z : pos 0 ≡ pos 0 +ℤ v q *ℤ pos 0 = nothing (v q) in z
  where
    nothing : (x : ℤ) → pos 0 ≡ pos 0 +ℤ x *ℤ pos 0
    nothing x = omega (arith, ints)
split v q (e ∷ es) = by (pointwise nat_eq q e.1) refl (split v q es)
  where
    here : (c x w t : ℤ) → c *ℤ x +ℤ (w +ℤ x *ℤ t) ≡ w +ℤ (x *ℤ (c *ℤ pos 1) +ℤ x *ℤ t)
    here c x w t = let turn : x *ℤ (c *ℤ pos 1) ≡ c *ℤ x = ap (λ z. x *ℤ z) (once c) ∙ turned x c in omega (arith, ints, turn)
      where
        once : (z : ℤ) → z *ℤ pos 1 ≡ z
        once z = omega (arith, ints)

        turned : (y z : ℤ) → y *ℤ z ≡ z *ℤ y
        turned y z = mul_comm y z

    elsewhere : (a w x t : ℤ) (c : ℤ) → a +ℤ (w +ℤ x *ℤ t) ≡ (a +ℤ w) +ℤ x *ℤ (c *ℤ pos 0 +ℤ t)
    elsewhere a w x t c = let same : c *ℤ pos 0 +ℤ t ≡ t = omega (arith, ints) in regroup a w (x *ℤ t) ∙ ap (λ z. (a +ℤ w) +ℤ x *ℤ z) (sym same)
      where
        regroup : (p q r : ℤ) → p +ℤ (q +ℤ r) ≡ (p +ℤ q) +ℤ r
        regroup p q r = omega (arith, ints)

    by : (t : Bool) → pointwise nat_eq q e.1 ≡ t → total v es ≡ total v (without q es) +ℤ v q *ℤ total (hit q) es
        → e.0 *ℤ v e.1 +ℤ total v es ≡ total v (cond t (without q es) (e ∷ without q es)) +ℤ v q *ℤ (e.0 *ℤ cond t (pos 1) (pos 0) +ℤ total (hit q) es)
    by true f later =
        let is : e.1 ≡ q = sym (same_numbers q e.1 f) in
        (λ i. e.0 *ℤ v (is i) +ℤ later i) ∙ here e.0 (v q) (total v (without q es)) (total (hit q) es)
        ∙ ap (λ z. total v (without q es) +ℤ z) (sym (mul-add (v q) (e.0 *ℤ pos 1) (total (hit q) es)))
    by false f later = ap (λ z. e.0 *ℤ v e.1 +ℤ z) later ∙ elsewhere (e.0 *ℤ v e.1) (total v (without q es)) (v q) (total (hit q) es) e.0

nothing_left : (n : ℕ) (v : List ℕ → ℤ) (f : Sum ℕ) → length f ≤ n → ((k : List ℕ) → total (hit k) f ≡ pos 0) → total v f ≡ pos 0
unfolding without
nothing_left n v [] h z = refl
nothing_left zero v (e ∷ es) h z = absurd (omega arith)
nothing_left (suc n) v (e ∷ es) h z =
    split v e.1 (e ∷ es)
    ∙ (λ i. total v (gone i) +ℤ v e.1 *ℤ z e.1 i)
    ∙ ap (λ x. x +ℤ v e.1 *ℤ pos 0)
    (nothing_left n v (without e.1 es) (let s = without_shorter e.1 es in omega (arith, s))
    (λ k. ap (total (hit k)) (sym gone) ∙ left k (total (hit k) (without e.1 (e ∷ es))) (hit k e.1) (sym (z k) ∙ split (hit k) e.1 (e ∷ es) ∙ ap (λ x. total (hit k) (without e.1 (e ∷ es)) +ℤ hit k e.1 *ℤ x) (z e.1))))
    ∙ ending (v e.1)
  where
    gone : without e.1 (e ∷ es) ≡ without e.1 es
    gone = ap (λ t. cond t (without e.1 es) (e ∷ without e.1 es)) (numbers_same e.1 e.1 refl)

    left : (k : List ℕ) (x y : ℤ) → pos 0 ≡ x +ℤ y *ℤ pos 0 → x ≡ pos 0
    left k x y e = omega (arith, ints, e)

    ending : (x : ℤ) → pos 0 +ℤ x *ℤ pos 0 ≡ pos 0
    ending x = omega (arith, ints)

-- sums with the same coefficients have the same totals
pub coefficients_decide : (f g : Sum ℕ) → ((k : List ℕ) → total (hit k) f ≡ total (hit k) g) → (v : List ℕ → ℤ) → total v f ≡ total v g
coefficients_decide f g h v =
    let z = nothing_left (length (f ++ negated g)) v (f ++ negated g) (le_refl (length (f ++ negated g))) (λ k. difference (hit k) ∙ cancelled (total (hit k) f) (total (hit k) g) (h k)) in
    equal (total v f) (total v g) (sym (difference v) ∙ z)
  where
    difference : (u : List ℕ → ℤ) → total u (f ++ negated g) ≡ total u f +ℤ neg_ℤ (total u g)
    difference u = total_append u f (negated g) ∙ ap (λ x. total u f +ℤ x) (total_negated u g)

    cancelled : (a b : ℤ) → a ≡ b → a +ℤ neg_ℤ b ≡ pos 0
    cancelled a b e = omega (arith, ints, e)

    equal : (a b : ℤ) → a +ℤ neg_ℤ b ≡ pos 0 → a ≡ b
    equal a b e = omega (arith, ints, e)
