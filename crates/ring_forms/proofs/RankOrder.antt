-- Parts in the order of monomials.
use Rattle.std.proofs.Common.{◌≡◌, ℕ, suc, ◌+◌, ◌-◌, ◌^◌, ◌<◌, min, subst, Ordering, Less, Equal, Greater, Bool, true, false, cond, Option, Some, None, List, [], ◌∷◌, ◌++◌, insert, length, slice_get, append_assoc, refl, sym, ap, ◌∙◌, append-nil, ltb-false, eqb-true, replicate, map, ◌==◌, ◌≤◌, arith}
use Rattle.std.specs.Prelude.{nat_lt, ⊤, ℤ, ◌+ℤ◌, ◌*ℤ◌}
use Rattle.std.specs.List.Sorted.{IsStrictlySortedBy}
use Rattle.std.proofs.lemmas.Cmp.{nat_list_cmp_total, tied_itself}
use Rattle.std.proofs.lemmas.Int.{ints}
use Rattle.std.specs.List.{AllByRecursion}
use Rattle.std.proofs.lemmas.Option.{slice_get_past}
use Rattle.std.specs.Cmp.Lexicographic.{slice_cmp}
use Rattle.std.specs.Ordering.{nat_cmp, is_gt, ordering_reverse}
use Rattle.pm_term.specs.Trees.{Tree}
use Rattle.ring_forms.specs.declared.form.Part.{Part}
use Rattle.ring_forms.specs.declared.poly.Atom.{Atom}
use Rattle.ring_forms.specs.declared.poly.Run.{Run}
use Rattle.ring_forms.specs.ExactForms.{with_power, powers, in_a_row, rank, factor_at, factors, term_at}
use Rattle.ring_forms.specs.Polynomials.{with_stopped, stopped_runs, stopped_rank, ranked_place, ranked_in, in_rank_order, flat, with_factor, factors_of_runs, terms_of, whole}
use Rattle.ring_forms.proofs.CleanForms.{Clean, Before}
use Rattle.ring_forms.proofs.ExactSums.{signed}
use Rattle.ring_forms.proofs.FixedTables.{total}
use Rattle.ring_forms.proofs.FormLemmas.{equal_is}

pub ranked_in_at : (p : Part) (f : List Part) → insert f (ranked_place (stopped_rank p.atoms) f) p ≡ ranked_in p f
ranked_in_at p [] = refl
ranked_in_at p (q ∷ qs) = by (is_gt (slice_cmp nat_cmp (stopped_rank p.atoms) (stopped_rank q.atoms))) (ranked_in_at p qs)
  where
    by : (t : Bool) → insert qs (ranked_place (stopped_rank p.atoms) qs) p ≡ ranked_in p qs → insert (q ∷ qs) (cond t (suc (ranked_place (stopped_rank p.atoms) qs)) 0) p ≡ cond t (q ∷ ranked_in p qs) (p ∷ q ∷ qs)
    by true e = ap (λ xs. q ∷ xs) e
    by false e = refl

pub flat_first : (made : List ℕ) (r : Run) (rs : List Run) → (made ++ r.atom ∷ r.power ∷ []) ++ flat rs ≡ made ++ flat (r ∷ rs)
flat_first made r rs = append_assoc made (r.atom ∷ r.power ∷ []) (flat rs)

pub factor_first : (nodes : List Tree) (made : List (Atom × ℕ)) (r : Run) (rs : List Run)
    → (made ++ with_factor (slice_get nodes r.atom) r.power []) ++ factors_of_runs nodes rs ≡ made ++ factors_of_runs nodes (r ∷ rs)
factor_first nodes made r rs = append_assoc made (with_factor (slice_get nodes r.atom) r.power []) (factors_of_runs nodes rs) ∙ by (slice_get nodes r.atom)
  where
    by : (o : Option Tree) → made ++ (with_factor o r.power [] ++ factors_of_runs nodes rs) ≡ made ++ with_factor o r.power (factors_of_runs nodes rs)
    by None = refl
    by (Some t) = refl

pub no_factor : (nodes : List Tree) (made : List (Atom × ℕ)) (r : Run) → false ≡ nat_lt r.atom (length nodes) → made ≡ made ++ with_factor (slice_get nodes r.atom) r.power []
no_factor nodes made r h =
    let past = ltb-false r.atom (length nodes) (sym h) in
    sym (append-nil made) ∙ sym (ap (λ o. made ++ with_factor o r.power []) (slice_get_past nodes r.atom past))

-- ---- powers

-- the product of these powers
decoded : List (ℕ × ℕ) → List ℕ
decoded [] = []
decoded (r ∷ rs) = replicate r.1 r.0 ++ decoded rs

decoded_power : (a : ℕ) (rs : List (ℕ × ℕ)) → decoded (with_power a rs) ≡ a ∷ decoded rs
unfolding decoded
decoded_power a [] = refl
decoded_power a (r ∷ rs) = by (r.0 == a) refl
  where
    by : (t : Bool) → (r.0 == a) ≡ t → decoded (cond t ((a, suc r.1) ∷ rs) ((a, 1) ∷ r ∷ rs)) ≡ a ∷ replicate r.1 r.0 ++ decoded rs
    by true e = let is : r.0 ≡ a = eqb-true r.0 a e in λ i. a ∷ replicate r.1 (sym is i) ++ decoded rs
    by false e = refl

decoded_powers : (p : List ℕ) → decoded (powers p) ≡ p
unfolding decoded
decoded_powers [] = refl
decoded_powers (a ∷ rest) = decoded_power a (powers rest) ∙ ap (λ xs. a ∷ xs) (decoded_powers rest)

row_injective : (rs ss : List (ℕ × ℕ)) → in_a_row rs ≡ in_a_row ss → rs ≡ ss
row_injective [] [] e = refl
row_injective [] (s ∷ ss) e = cc
row_injective (r ∷ rs) [] e = cc
row_injective (r ∷ rs) (s ∷ ss) e =
    let first : r.0 ≡ s.0 = cc in
    let second : r.1 ≡ s.1 = cc in
    let rest : in_a_row rs ≡ in_a_row ss = cc in
    λ i. (first i, second i) ∷ row_injective rs ss rest i

-- products of one rank are one
rank_injective : (p q : List ℕ) → rank p ≡ rank q → p ≡ q
rank_injective p q e =
    let rows : in_a_row (powers p) ≡ in_a_row (powers q) = cc in
    sym (decoded_powers p) ∙ ap decoded (row_injective (powers p) (powers q) rows) ∙ decoded_powers q

-- ---- powers that are kept in a usize

as_pairs : List Run → List (ℕ × ℕ)
as_pairs rs = map (λ (r : Run). (r.atom, r.power)) rs

-- no power is above a bound
abbrev Below : ℕ → List (ℕ × ℕ) → Type 0
Below n rs = AllByRecursion (λ r. r.1 ≤ n) rs

more_below : (n k : ℕ) → n ≤ k → (rs : List (ℕ × ℕ)) → Below n rs → Below k rs
more_below n k h [] g = tt
more_below n k h (r ∷ rs) g = (let b = g.0 in omega (arith, h, b), more_below n k h rs g.1)

power_below : (n a : ℕ) (rs : List (ℕ × ℕ)) → Below n rs → Below (suc n) (with_power a rs)
power_below n a [] g = (omega arith, tt)
power_below n a (r ∷ rs) g = by (r.0 == a)
  where
    by : (t : Bool) → Below (suc n) (cond t ((a, suc r.1) ∷ rs) ((a, 1) ∷ r ∷ rs))
    by true = (let b = g.0 in omega (arith, b), more_below n (suc n) (omega arith) rs g.1)
    by false = (omega arith, more_below n (suc n) (omega arith) (r ∷ rs) g)

powers_below : (p : List ℕ) → Below (length p) (powers p)
powers_below [] = tt
powers_below (a ∷ rest) = power_below (length rest) a (powers rest) (powers_below rest)

stopped_power : (n a : ℕ) (rs : List Run) → n < 2 ^ 63 → Below n (as_pairs rs) → as_pairs (with_stopped a rs) ≡ with_power a (as_pairs rs)
unfolding as_pairs
stopped_power n a [] h g = refl
stopped_power n a (r ∷ rs) h g = by (r.atom == a)
  where
    by : (t : Bool) → as_pairs (cond t (record { atom = a; power = min (r.power + 1) (2 ^ 64 - 1) } ∷ rs) (record { atom = a; power = 1 } ∷ r ∷ rs))
        ≡ cond t ((a, suc r.power) ∷ as_pairs rs) ((a, 1) ∷ (r.atom, r.power) ∷ as_pairs rs)
    by true = let b = g.0 in let e : min (r.power + 1) (2 ^ 64 - 1) ≡ suc r.power = omega (arith, h, b) in λ i. (a, e i) ∷ as_pairs rs
    by false = refl

stopped_powers : (p : List ℕ) → length p ≤ 8 → as_pairs (stopped_runs p) ≡ powers p
unfolding as_pairs
stopped_powers [] h = refl
stopped_powers (a ∷ rest) h =
    let later = stopped_powers rest (omega (arith, h)) in
    stopped_power (length rest) a (stopped_runs rest) (omega (arith, h)) (subst (Below (length rest)) (sym later) (powers_below rest)) ∙ ap (with_power a) later

flat_row : (rs : List Run) → flat rs ≡ in_a_row (as_pairs rs)
unfolding as_pairs
flat_row [] = refl
flat_row (r ∷ rs) = λ i. r.atom ∷ r.power ∷ flat_row rs i

stopped_is : (p : List ℕ) → length p ≤ 8 → stopped_rank p ≡ rank p
stopped_is p h = λ i. length p ∷ (flat_row (stopped_runs p) ∙ ap in_a_row (stopped_powers p h)) i

factors_are : (nodes : List Tree) (rs : List Run) → Below 255 (as_pairs rs) → factors_of_runs nodes rs ≡ factors nodes (as_pairs rs)
unfolding as_pairs
factors_are nodes [] g = refl
factors_are nodes (r ∷ rs) g = by (slice_get nodes r.atom) (factors_are nodes rs g.1)
  where
    by : (o : Option Tree) → factors_of_runs nodes rs ≡ factors nodes (as_pairs rs) → with_factor o r.power (factors_of_runs nodes rs) ≡ factor_at o r.power (factors nodes (as_pairs rs))
    by None e = e
    by (Some t) e = let b = g.0 in let is : min r.power 255 ≡ r.power = omega (arith, b) in λ i. (record { node = t }, is i) ∷ e i

-- ---- the order

abbrev pub Small : Part → Type 0
Small p = length p.atoms ≤ 8

pub terms_are : (nodes : List Tree) (f : List Part) → AllByRecursion Small f → terms_of nodes f ≡ map (term_at nodes) (signed f)
terms_are nodes [] h = refl
terms_are nodes (p ∷ ps) h =
    let is = stopped_powers p.atoms h.0 in
    let low = more_below (length p.atoms) 255 (let l = h.0 in omega (arith, l)) (powers p.atoms) (powers_below p.atoms) in
    let made = factors_are nodes (stopped_runs p.atoms) (subst (Below 255) (sym is) low) ∙ ap (factors nodes) is in
    λ i. (record { factors = made i }, whole p.coefficient) ∷ terms_are nodes ps h.1 i

ranked_in_all : (P : Part → Type 0) (p : Part) (f : List Part) → P p → AllByRecursion P f → AllByRecursion P (ranked_in p f)
ranked_in_all P p [] h g = (h, tt)
ranked_in_all P p (q ∷ qs) h g = by (is_gt (slice_cmp nat_cmp (stopped_rank p.atoms) (stopped_rank q.atoms))) (ranked_in_all P p qs h g.1)
  where
    by : (t : Bool) → AllByRecursion P (ranked_in p qs) → AllByRecursion P (cond t (q ∷ ranked_in p qs) (p ∷ q ∷ qs))
    by true later = (g.0, later)
    by false later = (h, g)

pub ranked_all : (P : Part → Type 0) (f : List Part) → AllByRecursion P f → AllByRecursion P (in_rank_order f)
ranked_all P [] h = tt
ranked_all P (p ∷ ps) h = ranked_in_all P p (in_rank_order ps) h.0 (ranked_all P ps h.1)

abbrev ranks : List ℕ → List ℕ → Ordering
ranks p q = slice_cmp nat_cmp (stopped_rank p) (stopped_rank q)

abbrev RankedBefore : List ℕ → List Part → Type 0
RankedBefore x f = AllByRecursion (λ (q : Part). ranks x q.atoms ≡ Less) f

abbrev Ranked : List Part → Type 0
Ranked [] = ⊤
Ranked (p ∷ ps) = RankedBefore p.atoms ps × Ranked ps

abbrev ApartFrom : Part → List Part → Type 0
ApartFrom p f = AllByRecursion (λ (q : Part). p.atoms ≡ q.atoms → ⊥) f

one_rank : (p q : Part) → Small p → Small q → ranks p.atoms q.atoms ≡ Equal → p.atoms ≡ q.atoms
one_rank p q h g e = rank_injective p.atoms q.atoms (sym (stopped_is p.atoms h) ∙ equal_is (stopped_rank p.atoms) (stopped_rank q.atoms) e ∙ stopped_is q.atoms g)

after_rank : (x y : List ℕ) (f : List Part) → ranks x y ≡ Less → RankedBefore y f → RankedBefore x f
after_rank x y [] e h = tt
after_rank x y (q ∷ qs) e h = (nat_list_cmp_total.trans (stopped_rank x) (stopped_rank y) (stopped_rank q.atoms) e h.0, after_rank x y qs e h.1)

ranked_in_ranked : (p : Part) (f : List Part) → Small p → AllByRecursion Small f → ApartFrom p f → Ranked f → Ranked (ranked_in p f)
ranked_in_ranked p [] s t a h = (tt, tt)
ranked_in_ranked p (q ∷ qs) s t a h = by (ranks p.atoms q.atoms) refl (ranked_in_ranked p qs s t.1 a.1 h.1)
  where
    by : (o : Ordering) → ranks p.atoms q.atoms ≡ o → Ranked (ranked_in p qs) → Ranked (cond (is_gt o) (q ∷ ranked_in p qs) (p ∷ q ∷ qs))
    by Less e later = ((e, after_rank p.atoms q.atoms qs e h.0), h)
    by Equal e later = absurd (a.0 (one_rank p q s t.0 e))
    by Greater e later =
        let less : ranks q.atoms p.atoms ≡ Less = nat_list_cmp_total.antisymm (stopped_rank q.atoms) (stopped_rank p.atoms) ∙ ap ordering_reverse e in
        (ranked_in_all (λ (x : Part). ranks q.atoms x.atoms ≡ Less) p qs less h.0, later)

apart_before : (x : List ℕ) (f : List Part) → Before x f → AllByRecursion (λ (q : Part). x ≡ q.atoms → ⊥) f
apart_before x [] h = tt
apart_before x (q ∷ qs) h = ((λ e. (not_less x (ap (slice_cmp nat_cmp x) e ∙ h.0))), apart_before x qs h.1)
  where
    not_less : (y : List ℕ) → slice_cmp nat_cmp y y ≡ Less → ⊥
    not_less y e = let same = tied_itself nat_list_cmp_total y in cc

order_ranked : (m : ℕ) (f : List Part) → Clean m f → AllByRecursion Small f → Ranked (in_rank_order f)
order_ranked m [] c s = tt
order_ranked m (p ∷ ps) c s =
    ranked_in_ranked p (in_rank_order ps) s.0 (ranked_all Small ps s.1) (ranked_all (λ (q : Part). p.atoms ≡ q.atoms → ⊥) ps (apart_before p.atoms ps c.1)) (order_ranked m ps c.2 s.1)

before_ranks : (x : List ℕ) (f : List Part) → length x ≤ 8 → AllByRecursion Small f → RankedBefore x f → AllByRecursion (λ y. slice_cmp nat_cmp (rank x) y ≡ Less) (map (λ e. rank e.1) (signed f))
before_ranks x [] l s h = tt
before_ranks x (q ∷ qs) l s h = ((λ i. slice_cmp nat_cmp (sym (stopped_is x l) i) (sym (stopped_is q.atoms s.0) i)) ∙ h.0, before_ranks x qs l s.1 h.1)

sorted_ranks : (f : List Part) → AllByRecursion Small f → Ranked f → IsStrictlySortedBy (slice_cmp nat_cmp) (map (λ e. rank e.1) (signed f))
unfolding IsStrictlySortedBy
sorted_ranks [] s h = tt
sorted_ranks (p ∷ ps) s h = (before_ranks p.atoms ps s.0 s.1 h.0, sorted_ranks ps s.1 h.1)

pub in_order : (m : ℕ) (f : List Part) → Clean m f → AllByRecursion Small f → IsStrictlySortedBy (slice_cmp nat_cmp) (map (λ e. rank e.1) (signed (in_rank_order f)))
in_order m f c s = sorted_ranks (in_rank_order f) (ranked_all Small f s) (order_ranked m f c s)

-- ---- the order changes no total

ranked_in_total : (v : List ℕ → ℤ) (p : Part) (f : List Part) → total v (signed (ranked_in p f)) ≡ whole p.coefficient *ℤ v p.atoms +ℤ total v (signed f)
ranked_in_total v p [] = refl
ranked_in_total v p (q ∷ qs) = by (is_gt (ranks p.atoms q.atoms)) (ranked_in_total v p qs)
  where
    exchange : (a b c : ℤ) → a +ℤ (b +ℤ c) ≡ b +ℤ (a +ℤ c)
    exchange a b c = omega (arith, ints)

    by : (t : Bool) → total v (signed (ranked_in p qs)) ≡ whole p.coefficient *ℤ v p.atoms +ℤ total v (signed qs)
        → total v (signed (cond t (q ∷ ranked_in p qs) (p ∷ q ∷ qs))) ≡ whole p.coefficient *ℤ v p.atoms +ℤ (whole q.coefficient *ℤ v q.atoms +ℤ total v (signed qs))
    by true e = ap (λ x. whole q.coefficient *ℤ v q.atoms +ℤ x) e ∙ exchange (whole q.coefficient *ℤ v q.atoms) (whole p.coefficient *ℤ v p.atoms) (total v (signed qs))
    by false e = refl

pub ranked_total : (v : List ℕ → ℤ) (f : List Part) → total v (signed (in_rank_order f)) ≡ total v (signed f)
ranked_total v [] = refl
ranked_total v (p ∷ ps) = ranked_in_total v p (in_rank_order ps) ∙ ap (λ x. whole p.coefficient *ℤ v p.atoms +ℤ x) (ranked_total v ps)
