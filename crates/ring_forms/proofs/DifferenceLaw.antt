-- Differences that are one over whole numbers have one value, where all atoms have values; and an
-- operation whose exact form is that of something whose atoms have values has a value.
use Rattle.std.proofs.Common.{◌≡◌, ℕ, ◌<◌, Bool, true, false, cond, ◌&&◌, ◌⊎◌, inl, inr, Option, Some, None, List, [], ◌∷◌, ◌++◌, map, length, slice_get, refl, sym, ap, subst, ◌∙◌, arith}
use Rattle.std.specs.Prelude.{ℤ, pos, neg_ℤ, ◌+ℤ◌, ◌-ℤ◌, ◌*ℤ◌, nat_eq, IsSome, IsTrue}
use Rattle.std.specs.Cmp.Lexicographic.{pointwise}
use Rattle.std.specs.List.{AllByRecursion}
use Rattle.std.proofs.lemmas.Bool.{and_parts}
use Rattle.std.proofs.lemmas.Int.{ints}
use Rattle.pm_ops.specs.declared.code.Code.{Code}
use Rattle.pm_wide.specs.Operations.{operation_value}
use Rattle.pm_wide.specs.Types.{Ty, Word}
use Rattle.pm_term.specs.Environments.{GivesWords}
use Rattle.pm_term.specs.Terms.{operation_on, with_value, term_value, term_values}
use Rattle.pm_term.specs.Trees.{Tree, name, constant, node, Trees, nil, cons, type_of, operations_of, IsWellTyped, AreWellTyped}
use Rattle.pm_term.proofs.RefiningLaws.{on_values, both}
use Rattle.ring_forms.specs.declared.atom.Atom.{Atom}
use Rattle.ring_forms.specs.declared.atom.Atom.TheVariants.{Operation}
use Rattle.ring_forms.specs.declared.exact.Reading.{Reading}
use Rattle.ring_forms.specs.Atoms.{atom_number}
use Rattle.ring_forms.specs.Differences.{number_alone, same_among, same_exactly, all_signed, have_exact_forms, exact_difference, AreOneExactly, exact_number_by, exact_number}
use Rattle.ring_forms.specs.DifferenceValues.{values_difference}
use Rattle.ring_forms.specs.ExactForms.{goes_exactly, exactly_expanded, atoms_in, atoms_of, with_met, have_exact_parts}
use Rattle.ring_forms.specs.ExactTables.{blank, is_exact}
use Rattle.ring_forms.specs.PolynomialValues.{node_value}
use Rattle.ring_forms.specs.RingForms.{atom, same_atom}
use Rattle.ring_forms.specs.Sums.{Sum, coefficient, negated}
use Rattle.ring_forms.specs.TableForms.{combined_form}
use Rattle.ring_forms.proofs.Agreement.{Factors, all_append, negated_factors, append_factors}
use Rattle.ring_forms.proofs.CleanForms.{hit}
use Rattle.ring_forms.proofs.ExactDifferences as differences
use Rattle.ring_forms.proofs.ExactDifferences.{signed_first, signed_rest}
use Rattle.ring_forms.proofs.ExactLaw.{Valued, one_value, words_over, factors_of, all_met, all_ordered, left_of, right_of}
use Rattle.ring_forms.proofs.ExactLimits.{met_number, IsMet, HeldMet, met_agree}
use Rattle.ring_forms.proofs.ExactReadings.{exacts_over, Met, AllMet, exact_limited, all_exact_limited, all_further}
use Rattle.ring_forms.proofs.ExactValues.{nodes_value, exact_value}
use Rattle.ring_forms.proofs.FixedTables.{operands_over, entry, total, total_append, total_negated, numbers}
use Rattle.ring_forms.proofs.FormBounds.{operand_words}
use Rattle.ring_forms.proofs.FormLemmas.{same_numbers, numbers_same}
use Rattle.ring_forms.proofs.FormLimits.{same_numbered, numbered, key_length}
use Rattle.ring_forms.proofs.FormValues.{atoms_value}
use Rattle.ring_forms.proofs.MetAtoms.{Told, all_told_afterwards}
use Rattle.ring_forms.proofs.PolynomialLaw.{value_at, at_place, sorted_value, entry_at}
use Rattle.ring_forms.proofs.Readings.{IsIn, HasFull, full_limited, itself}
use Rattle.ring_forms.proofs.SameAtoms.{one_entry}
use Rattle.ring_forms.proofs.SameSums.{Limited, one_total, exactly_agree}
use Rattle.ring_forms.proofs.Tables.{OrderedFrom, at, values_from}

module _ (words : ℕ → Ty → Word) (given : GivesWords words) where
  -- ---- atoms that have values

  abbrev HasValue : Tree → Type 0
  HasValue a = (w : Word) × (term_value words a ≡ Some w)

  abbrev pub AtomsValued : List Tree → Type 0
  AtomsValued xs = AllByRecursion HasValue xs

  mutual
    pub atoms_valued : (t : Tree) (w : Word) → term_value words t ≡ Some w → AtomsValued (atoms_in t)
    atoms_valued (name version ty) w e = ((w, e), tt)
    atoms_valued (constant word) w e = tt
    atoms_valued (node code ty args) w e = by (goes_exactly code) (let ws = on_values code ty (term_values words args) w e in all_atoms_valued args ws.0 ws.1)
      where
        by : (b : Bool) → AtomsValued (atoms_of args) → AtomsValued (cond b (atoms_of args) (node code ty args ∷ []))
        by true h = h
        by false h = ((w, e), tt)

    pub all_atoms_valued : (ts : Trees) (ws : List Word) → term_values words ts ≡ Some ws → AtomsValued (atoms_of ts)
    all_atoms_valued nil ws e = tt
    all_atoms_valued (cons t ts) ws e =
        let v = both (term_value words t) (term_values words ts) ws e in all_append HasValue (atoms_in t) (atoms_of ts) (atoms_valued t v.0 v.2) (all_atoms_valued ts v.1 v.3)

  module _ (r : Reading) (ordered : OrderedFrom 0 r.inner) where
    abbrev pub Fine : Tree → Type 0
    Fine a = Valued words given r.inner ordered a

    mutual
      fine_atoms : (t : Tree) → Met r t → IsWellTyped t → exact_limited r t ≡ true → AtomsValued (atoms_in t) → AllByRecursion Fine (atoms_in t)
      fine_atoms (name version ty) h g l v = (tt, tt)
      fine_atoms (constant word) h g l v = tt
      fine_atoms (node code ty args) h g l v = by (goes_exactly code) refl l v (λ b k u. all_fine args (h.0 b) g.2 k u)
        where
          by : (b : Bool) → goes_exactly code ≡ b → cond b (is_exact (combined_form 128 code 0 (exacts_over r args)) && all_exact_limited r args) (full_limited r.inner args) ≡ true
              → AtomsValued (cond b (atoms_of args) (node code ty args ∷ [])) → (goes_exactly code ≡ true → all_exact_limited r args ≡ true → AtomsValued (atoms_of args) → AllByRecursion Fine (atoms_of args))
              → AllByRecursion Fine (cond b (atoms_of args) (node code ty args ∷ []))
          by true p k u f = f p (and_parts (is_exact (combined_form 128 code 0 (exacts_over r args))) (all_exact_limited r args) k).1 u
          by false p k u f = (((h.1 p).1, g.2, k, u.0), tt)

      pub all_fine : (ts : Trees) → AllMet r ts → AreWellTyped ts → all_exact_limited r ts ≡ true → AtomsValued (atoms_of ts) → AllByRecursion Fine (atoms_of ts)
      all_fine nil h g l v = tt
      all_fine (cons t ts) h g l v =
          let k = and_parts (exact_limited r t) (all_exact_limited r ts) l in
          all_append Fine (atoms_in t) (atoms_of ts) (fine_atoms t h.0 g.0 k.0 (left_of HasValue (atoms_in t) (atoms_of ts) v)) (all_fine ts h.1 g.1 k.1 (right_of HasValue (atoms_in t) (atoms_of ts) v))

    -- the factors of a difference
    pub fine_factors : (ts : Trees) → AllByRecursion Fine (atoms_of ts) → Factors Fine (exact_difference ts)
    fine_factors nil h = tt
    fine_factors (cons t nil) h = factors_of Fine t (left_of Fine (atoms_in t) [] h)
    fine_factors (cons t (cons u nil)) h =
        append_factors Fine (exactly_expanded t) (negated (exactly_expanded u)) (factors_of Fine t (left_of Fine (atoms_in t) (atoms_in u ++ []) h))
        (negated_factors Fine (exactly_expanded u) (factors_of Fine u (left_of Fine (atoms_in u) [] (right_of Fine (atoms_in t) (atoms_in u ++ []) h))))
    fine_factors (cons t (cons u (cons s ss))) h = tt

    -- ---- sums that are one have one value

    is_in : (a : Tree) → IsMet r a → IsIn r.atoms (entry r.inner a)
    is_in (name version ty) h = h
    is_in (constant word) h = absurd h
    is_in (node code ty args) h = h.0

    module _ (depth : ℕ) (told : Told r.inner depth r) (fine_nodes : AllByRecursion Fine r.nodes) where
      abbrev place : ℕ → ℤ
      place = at_place words r.nodes

      place_value : (a : Tree) → HeldMet r depth a → Fine a → place (met_number r a) ≡ node_value words a
      place_value a h f =
          let inside : atom_number (map (entry r.inner) r.nodes) (entry r.inner a) < length (map (entry r.inner) r.nodes) = subst (λ xs. atom_number xs (entry r.inner a) < length xs) told.entries (is_in a h.0) in
          let found = entry_at (entry r.inner) Fine (entry r.inner a) r.nodes fine_nodes inside in
          let there : slice_get r.nodes (met_number r a) ≡ Some found.0 = ap (λ xs. slice_get r.nodes (atom_number xs (entry r.inner a))) told.entries ∙ found.1 in
          ap (value_at words r.nodes) there ∙ one_value words given r.inner ordered found.0 a found.3 f found.2

      plain_value : (p : List Tree) → AllByRecursion (HeldMet r depth) p → AllByRecursion Fine p → atoms_value place (map (met_number r) p) ≡ nodes_value words given p
      plain_value [] h f = refl
      plain_value (a ∷ rest) h f = λ i. place_value a h.0 f.0 i *ℤ plain_value rest h.1 f.1 i

      sum_value : (s : Sum Tree) → Factors (HeldMet r depth) s → Factors Fine s → total (λ p. atoms_value place (numbers (met_number r) p)) s ≡ total (nodes_value words given) s
      sum_value [] h f = refl
      sum_value (e ∷ es) h f = λ i. e.0 *ℤ (sorted_value place (map (met_number r) e.1) ∙ plain_value e.1 h.0 f.0) i +ℤ sum_value es h.1 f.1 i

      pub one_sum_value : (s t : Sum Tree) → Factors (HeldMet r depth) s → Factors Fine s → Factors (HeldMet r depth) t → Factors Fine t → Limited (met_number r) s → Limited (met_number r) t
          → same_exactly (same_numbered (met_number r)) s t ≡ true → total (nodes_value words given) s ≡ total (nodes_value words given) t
      one_sum_value s t hs fs ht ft ls lt e = sym (sum_value s hs fs) ∙ one_total (met_number r) s t ls lt e (atoms_value place) ∙ sum_value t ht ft

    -- ---- an atom that is met with a coefficient is one of those that have values

    abbrev Twin : ℕ → Type 0
    Twin n = (a : Tree) × Fine a × (IsIn r.atoms (entry r.inner a)) × (met_number r a ≡ n)

    alone_key : (n : ℕ) (p : List Tree) → pointwise nat_eq (n ∷ []) (numbers (met_number r) p) ≡ true → (a : Tree) × (p ≡ a ∷ []) × (met_number r a ≡ n)
    alone_key n [] e = let l = ap length (same_numbers (n ∷ []) (numbers (met_number r) []) e) in absurd (omega (arith, l))
    alone_key n (a ∷ []) e = (a, refl, (let is = same_numbers (n ∷ []) (met_number r a ∷ []) e in sym (first is)))
      where
        first : {x y : ℕ} → (x ∷ []) ≡ (y ∷ []) → x ≡ y
        first h = cc
    alone_key n (a ∷ b ∷ rest) e =
        let l = ap length (same_numbers (n ∷ []) (numbers (met_number r) (a ∷ b ∷ rest)) e) in let k = key_length (met_number r) 0 (a ∷ b ∷ rest) in absurd (omega (arith, l, k))

    pub there_or_zero : (depth n : ℕ) (s : Sum Tree) → Factors (HeldMet r depth) s → Factors Fine s → Twin n ⊎ (numbered (met_number r) (n ∷ []) s ≡ pos 0)
    there_or_zero depth n [] h f = inr refl
    there_or_zero depth n (e ∷ es) h f = by (pointwise nat_eq (n ∷ []) (numbers (met_number r) e.1)) refl (there_or_zero depth n es h.1 f.1)
      where
        nothing : (c x : ℤ) → x ≡ pos 0 → c *ℤ pos 0 +ℤ x ≡ pos 0
        nothing c x z = omega (arith, ints, z)

        here : pointwise nat_eq (n ∷ []) (numbers (met_number r) e.1) ≡ true → Twin n
        here g =
            let k = alone_key n e.1 g in
            let held = subst (AllByRecursion (HeldMet r depth)) k.1 h.0 in
            let fine = subst (AllByRecursion Fine) k.1 f.0 in (k.0, fine.0, is_in k.0 held.0.0, k.2)

        by : (b : Bool) → pointwise nat_eq (n ∷ []) (numbers (met_number r) e.1) ≡ b → (Twin n ⊎ (numbered (met_number r) (n ∷ []) es ≡ pos 0))
            → Twin n ⊎ (e.0 *ℤ cond b (pos 1) (pos 0) +ℤ numbered (met_number r) (n ∷ []) es ≡ pos 0)
        by true g later = inl (here g)
        by false g (inl t) = inl t
        by false g (inr z) = inr (nothing e.0 (numbered (met_number r) (n ∷ []) es) z)

    -- an operation on words that is the entry of an atom that has a value
    pub twin_value : (a : Tree) (code : Code) (ty : Ty) (args : Trees) (ws : List Word) → Fine a → entry r.inner a ≡ Operation code ty (operands_over r.inner args)
        → HasFull r.inner args → AreWellTyped args → full_limited r.inner args ≡ true → term_values words args ≡ Some ws → IsSome (operation_value code ty ws)
    twin_value (name v s) code ty args ws f e h w l x = cc
    twin_value (constant word) code ty args ws f e h w l x = absurd f
    twin_value (node c s xs) code ty args ws f e h w l x =
        let p : c ≡ code = cc in
        let q : s ≡ ty = cc in
        let os : operands_over r.inner xs ≡ operands_over r.inner args = cc in
        let v = on_values c s (term_values words xs) f.3.0 f.3.1 in
        let us : v.0 ≡ ws
        = sym (words_over words given r.inner ordered xs v.0 f.0 f.1 f.2 v.1) ∙ ap (operand_words (at (values_from words [] r.inner))) os
        ∙ words_over words given r.inner ordered args ws h w l x in
        let is : operation_value c s v.0 ≡ Some f.3.0 = sym (ap (operation_on c s) v.1) ∙ f.3.1 in
        subst (λ o. IsSome o) (sym ((λ i. operation_value (sym p i) (sym q i) (sym us i)) ∙ is)) refl

-- ---- two differences that are one

blank_told : (table : List Atom) (depth : ℕ) → Told table depth blank
blank_told table depth = record { entries = refl; held = tt }

module _ (words : ℕ → Ty → Word) (given : GivesWords words) (ts us : Trees) (wt : AreWellTyped ts) (wu : AreWellTyped us) where
  abbrev r : Reading
  r = differences.r ts us wt wu

  abbrev first : Reading
  first = differences.first ts us wt wu

  abbrev depth : ℕ
  depth = differences.depth ts us wt wu

  met_ts : AllMet r ts
  met_ts = differences.ht ts us wt wu

  met_us : AllMet r us
  met_us = differences.hu ts us wt wu

  -- the terms of either are within the limits
  signed : (xs : Trees) → IsTrue (have_exact_forms (same_among ts us) xs) → all_signed xs ≡ true
  signed xs h = (and_parts (all_signed xs) (have_exact_parts (same_among ts us) xs) h).0

  within : (xs : Trees) → AllMet r xs → AreWellTyped xs → operations_of xs < depth → IsTrue (have_exact_forms (same_among ts us) xs) → all_exact_limited r xs ≡ true
  within xs m w o h = sym (differences.parts_are r depth xs m w (signed xs h) o) ∙ (and_parts (all_signed xs) (have_exact_parts (same_among ts us) xs) h).1

  module _ (one : AreOneExactly ts us) where
    limited_ts : all_exact_limited r ts ≡ true
    limited_ts = within ts met_ts wt (omega arith) one.0

    limited_us : all_exact_limited r us ≡ true
    limited_us = within us met_us wu (omega arith) one.1

    ordered : OrderedFrom 0 r.inner
    ordered = all_ordered words given us first wu limited_us (all_ordered words given ts blank wt (sym (differences.limits_kept ts us wt wu) ∙ limited_ts) tt)

    by_numbers : same_exactly (same_numbered (met_number r)) (exact_difference ts) (exact_difference us) ≡ true
    by_numbers = sym (differences.by_numbers r depth ts us met_ts met_us wt wu (signed ts one.0) (signed us one.1) (omega arith) (omega arith) limited_ts limited_us) ∙ one.2

    held_ts : Factors (HeldMet r depth) (exact_difference ts)
    held_ts = differences.difference_factors r depth ts met_ts wt (omega arith)

    held_us : Factors (HeldMet r depth) (exact_difference us)
    held_us = differences.difference_factors r depth us met_us wu (omega arith)

    small_ts : Limited (met_number r) (exact_difference ts)
    small_ts = differences.difference_limited r depth ts wt (signed ts one.0) limited_ts

    small_us : Limited (met_number r) (exact_difference us)
    small_us = differences.difference_limited r depth us wu (signed us one.1) limited_us

    fine_ts : AtomsValued words given (atoms_of ts) → AllByRecursion (Fine words given r ordered) (atoms_of ts)
    fine_ts v = all_fine words given r ordered ts met_ts wt limited_ts v

    pub one_total_value : AtomsValued words given (atoms_of ts) → AtomsValued words given (atoms_of us) → total (nodes_value words given) (exact_difference ts) ≡ total (nodes_value words given) (exact_difference us)
    one_total_value vt vu =
        let fine_us = all_fine words given r ordered us met_us wu limited_us vu in
        let early = all_told_afterwards r.inner depth ts blank (all_further us first).inner wt (omega arith) (blank_told r.inner depth) in
        let late = all_told_afterwards r.inner depth us first (itself r.inner) wu (omega arith) early.0 in
        let nodes = late.1 ∙ ap (λ xs. with_met (same_atom depth) xs (atoms_of us)) early.1 in
        let fine_nodes = subst (AllByRecursion (Fine words given r ordered)) (sym nodes)
        (all_met (Fine words given r ordered) (same_atom depth) _ (atoms_of us) (all_met (Fine words given r ordered) (same_atom depth) [] (atoms_of ts) tt (fine_ts vt)) fine_us) in
        one_sum_value words given r ordered depth late.0 fine_nodes (exact_difference ts) (exact_difference us) held_ts (fine_factors words given r ordered ts (fine_ts vt)) held_us (fine_factors words given r ordered us fine_us) small_ts small_us
        by_numbers

-- the number of an atom alone
alone_total : (r : Reading) (t : Tree) → numbered (met_number r) (met_number r t ∷ []) (atom t) ≡ pos 1
alone_total r t = ap (λ b. pos 1 *ℤ cond b (pos 1) (pos 0) +ℤ pos 0) (numbers_same (met_number r t ∷ []) (met_number r t ∷ []) refl)

not_zero : pos 1 ≡ pos 0 → ⊥
not_zero e = cc

-- an operation that is an atom has a value where its form is that of something that has one
module _ (words : ℕ → Ty → Word) (given : GivesWords words) (ts : Trees) (code : Code) (ty : Ty) (args : Trees) (wt : AreWellTyped ts) (wn : IsWellTyped (node code ty args)) (apart : goes_exactly code ≡ false) where
  abbrev us : Trees
  us = cons (node code ty args) nil

  abbrev wu : AreWellTyped us
  wu = (wn, tt)

  abbrev last : Reading
  last = differences.r ts us wt wu

  is_atom : exact_difference us ≡ atom (node code ty args)
  is_atom = by (goes_exactly code) _ _ apart
    where
      by : (b : Bool) (x y : Sum Tree) → b ≡ false → cond b x y ≡ y
      by true x y e = cc
      by false x y e = refl

  pub atom_value : AreOneExactly ts us → AtomsValued words given (atoms_of ts) → (ws : List Word) → term_values words args ≡ Some ws → IsSome (operation_value code ty ws)
  atom_value one v ws e =
      let inside = (met_us words given ts us wt wu).0.1 apart in
      let count : numbered (met_number last) (met_number last (node code ty args) ∷ []) (exact_difference ts) ≡ pos 1
      = one_total (met_number last) (exact_difference ts) (exact_difference us) (small_ts words given ts us wt wu one) (small_us words given ts us wt wu one) (by_numbers words given ts us wt wu one) (hit (met_number last (node code ty args) ∷ []))
      ∙ ap (numbered (met_number last) (met_number last (node code ty args) ∷ [])) is_atom ∙ alone_total last (node code ty args) in
      by inside (limits (and_parts (exact_limited last (node code ty args)) true (limited_us words given ts us wt wu one)).0)
      count (there_or_zero words given last (ordered words given ts us wt wu one) (differences.depth ts us wt wu) (met_number last (node code ty args)) (exact_difference ts) (held_ts words given ts us wt wu one)
      (fine_factors words given last (ordered words given ts us wt wu one) ts (fine_ts words given ts us wt wu one v)))
    where
      limits : exact_limited last (node code ty args) ≡ true → full_limited last.inner args ≡ true
      limits l = by_code (goes_exactly code) _ _ apart l
        where
          by_code : (b x y : Bool) → b ≡ false → cond b x y ≡ true → y ≡ true
          by_code true x y e l = cc
          by_code false x y e l = l

      by : IsIn last.atoms (Operation code ty (operands_over last.inner args)) × HasFull last.inner args → full_limited last.inner args ≡ true
          → numbered (met_number last) (met_number last (node code ty args) ∷ []) (exact_difference ts) ≡ pos 1
          → Twin words given last (ordered words given ts us wt wu one) (met_number last (node code ty args)) ⊎ (numbered (met_number last) (met_number last (node code ty args) ∷ []) (exact_difference ts) ≡ pos 0)
          → IsSome (operation_value code ty ws)
      by inside l count (inr z) = absurd (not_zero (sym count ∙ z))
      by inside l count (inl t) =
          twin_value words given last (ordered words given ts us wt wu one) t.0 code ty args ws t.1 (one_entry last.atoms (entry last.inner t.0) (Operation code ty (operands_over last.inner args)) t.2 t.3) inside.1 wn.2 l e

-- ---- a number alone

pub if_true : {X : Type 0} (b : Bool) (o : Option X) (x : X) → cond b o None ≡ Some x → (b ≡ true) × (o ≡ Some x)
if_true true o x e = (refl, e)
if_true false o x e = cc

module _ (words : ℕ → Ty → Word) (given : GivesWords words) (ts : Trees) (wt : AreWellTyped ts) (z : ℤ) (is : exact_number ts ≡ Some z) where
  abbrev read : Reading
  read = differences.r ts nil wt tt

  abbrev deep : ℕ
  deep = differences.depth ts nil wt tt

  has : IsTrue (have_exact_forms (same_among ts nil) ts)
  has = (if_true (have_exact_forms (same_among ts nil) ts) (exact_number_by (same_among ts nil) (exact_difference ts)) z is).0

  abbrev by_atoms : ℤ
  by_atoms = coefficient (same_among ts nil) [] (exact_difference ts)

  found : (same_exactly (same_among ts nil) (exact_difference ts) (number_alone by_atoms) ≡ true) × (Some by_atoms ≡ Some z)
  found =
      if_true (same_exactly (same_among ts nil) (exact_difference ts) (number_alone by_atoms)) (Some by_atoms) z
      (if_true (have_exact_forms (same_among ts nil) ts) (exact_number_by (same_among ts nil) (exact_difference ts)) z is).1

  z_is : by_atoms ≡ z
  z_is = (let e = found.1 in cc)

  number_limited : all_exact_limited read ts ≡ true
  number_limited = within words given ts nil wt tt ts (met_ts words given ts nil wt tt) wt (omega arith) has

  pub sign : all_signed ts ≡ true
  sign = signed words given ts nil wt tt ts has

  held : Factors (HeldMet read deep) (exact_difference ts)
  held = differences.difference_factors read deep ts (met_ts words given ts nil wt tt) wt (omega arith)

  small : Limited (met_number read) (exact_difference ts)
  small = differences.difference_limited read deep ts wt sign number_limited

  small_alone : Limited (met_number read) (number_alone z)
  small_alone =
      subst (λ x. Limited (met_number read) (number_alone x)) (sym (differences.one_coefficient read deep ts (met_ts words given ts nil wt tt) wt sign (omega arith) number_limited) ∙ z_is)
      (differences.alone_limited read deep ts (met_ts words given ts nil wt tt) wt sign (omega arith) number_limited (differences.by_number read deep ts (met_ts words given ts nil wt tt) wt sign (omega arith) number_limited)
      (differences.size read deep ts (met_ts words given ts nil wt tt) wt sign (omega arith) number_limited))

  same_by_numbers : same_exactly (same_numbered (met_number read)) (exact_difference ts) (number_alone z) ≡ true
  same_by_numbers =
      sym (exactly_agree (HeldMet read deep) (same_atom deep) (same_numbered (met_number read)) (met_agree read deep) (exact_difference ts) (number_alone z) held (tt, tt))
      ∙ ap (λ x. same_exactly (same_atom deep) (exact_difference ts) (number_alone x)) (sym z_is) ∙ found.0

  number_ordered : OrderedFrom 0 read.inner
  number_ordered = all_ordered words given ts blank wt number_limited tt

  pub number_value : AtomsValued words given (atoms_of ts) → total (nodes_value words given) (exact_difference ts) ≡ z
  number_value v =
      let fine = all_fine words given read number_ordered ts (met_ts words given ts nil wt tt) wt number_limited v in
      let told = all_told_afterwards read.inner deep ts blank (itself read.inner) wt (omega arith) (blank_told read.inner deep) in
      let fine_nodes = subst (AllByRecursion (Fine words given read number_ordered)) (sym told.1) (all_met (Fine words given read number_ordered) (same_atom deep) [] (atoms_of ts) tt fine) in
      one_sum_value words given read number_ordered deep told.0 fine_nodes (exact_difference ts) (number_alone z) held (fine_factors words given read number_ordered ts fine) (tt, tt) (tt, tt) small small_alone same_by_numbers ∙ once z
    where
      once : (x : ℤ) → x *ℤ pos 1 +ℤ pos 0 ≡ x
      once x = omega (arith, ints)

-- an atom isn't a number
pub atom_is_no_number : (words : ℕ → Ty → Word) → GivesWords words → (code : Code) (ty : Ty) (args : Trees) (z : ℤ) → IsWellTyped (node code ty args) → goes_exactly code ≡ false → exact_number (cons (node code ty args) nil) ≡ Some z → ⊥
atom_is_no_number words given code ty args z w apart is =
    not_zero
    (sym (ap (numbered (met_number (read words given (cons (node code ty args) nil) (w, tt) z is)) (met_number (read words given (cons (node code ty args) nil) (w, tt) z is) (node code ty args) ∷ [])) is_sum ∙ alone_total (read words given (cons (node code ty args) nil) (w, tt) z is) (node code ty args))
    ∙ one_total (met_number (read words given (cons (node code ty args) nil) (w, tt) z is)) (exact_difference (cons (node code ty args) nil)) (number_alone z) (small words given (cons (node code ty args) nil) (w, tt) z is) (small_alone words given (cons (node code ty args) nil) (w, tt) z is)
    (same_by_numbers words given (cons (node code ty args) nil) (w, tt) z is) (hit (met_number (read words given (cons (node code ty args) nil) (w, tt) z is) (node code ty args) ∷ []))
    ∙ nothing z)
  where
    nothing : (x : ℤ) → x *ℤ pos 0 +ℤ pos 0 ≡ pos 0
    nothing x = omega (arith, ints)

    is_sum : exact_difference (cons (node code ty args) nil) ≡ atom (node code ty args)
    is_sum = by (goes_exactly code) _ _ apart
      where
        by : (b : Bool) (x y : Sum Tree) → b ≡ false → cond b x y ≡ y
        by true x y e = cc
        by false x y e = refl

-- ---- values

pub listed : (o : Option Word) (p : Option (List Word)) (x : Word) (xs rs : List Word) → o ≡ Some x → p ≡ Some xs → with_value o p ≡ Some rs → (x ∷ xs) ≡ rs
listed o p x xs rs e f g = let is : Some (x ∷ xs) ≡ Some rs = sym (λ i. with_value (e i) (f i)) ∙ g in cc

-- the total of a difference of terms that have values
pub difference_value : (words : ℕ → Ty → Word) (given : GivesWords words) (ts : Trees) (rs : List Word) → AreWellTyped ts → all_signed ts ≡ true → term_values words ts ≡ Some rs
    → values_difference rs ≡ total (nodes_value words given) (exact_difference ts)
difference_value words given nil rs w s e = let is : [] ≡ rs = cc in ap values_difference (sym is)
difference_value words given (cons t nil) rs w s e =
    let v = both (term_value words t) (Some []) rs e in
    let is : v.0 ∷ [] ≡ rs = listed (term_value words t) (Some []) v.0 [] rs v.2 refl e in
    ap values_difference (sym is) ∙ exact_value words given t w.0 (signed_first (type_of t).unsigned _ s) v.0 v.2
difference_value words given (cons t (cons u nil)) rs w s e =
    let v = both (term_value words t) (term_values words (cons u nil)) rs e in
    let x = both (term_value words u) (Some []) v.1 v.3 in
    let second : x.0 ∷ [] ≡ v.1 = listed (term_value words u) (Some []) x.0 [] v.1 x.2 refl v.3 in
    let is : v.0 ∷ x.0 ∷ [] ≡ rs = ap (λ xs. v.0 ∷ xs) second ∙ listed (term_value words t) (term_values words (cons u nil)) v.0 v.1 rs v.2 v.3 e in
    ap values_difference (sym is)
    ∙ (λ i. exact_value words given t w.0 (signed_first (type_of t).unsigned _ s) v.0 v.2 i -ℤ exact_value words given u w.1.0 (signed_first (type_of u).unsigned _ (signed_rest (type_of t).unsigned _ s)) x.0 x.2 i)
    ∙ less (total (nodes_value words given) (exactly_expanded t)) (total (nodes_value words given) (exactly_expanded u))
    ∙ ap (λ y. total (nodes_value words given) (exactly_expanded t) +ℤ y) (sym (total_negated (nodes_value words given) (exactly_expanded u))) ∙ sym (total_append (nodes_value words given) (exactly_expanded t) (negated (exactly_expanded u)))
  where
    less : (a b : ℤ) → a -ℤ b ≡ a +ℤ neg_ℤ b
    less a b = omega (arith, ints)
difference_value words given (cons t (cons u (cons x xs))) rs w s e =
    let v = both (term_value words t) (term_values words (cons u (cons x xs))) rs e in
    let y = both (term_value words u) (term_values words (cons x xs)) v.1 v.3 in
    let q = both (term_value words x) (term_values words xs) y.1 y.3 in
    let third = listed (term_value words x) (term_values words xs) q.0 q.1 y.1 q.2 q.3 y.3 in
    let second = ap (λ zs. y.0 ∷ zs) third ∙ listed (term_value words u) (term_values words (cons x xs)) y.0 y.1 v.1 y.2 y.3 v.3 in
    let is : v.0 ∷ y.0 ∷ q.0 ∷ q.1 ≡ rs = ap (λ zs. v.0 ∷ zs) second ∙ listed (term_value words t) (term_values words (cons u (cons x xs))) v.0 v.1 rs v.2 v.3 e in
    ap values_difference (sym is)

module _ (words : ℕ → Ty → Word) (given : GivesWords words) where
  pub one_difference : (ts us : Trees) (rs ss : List Word) → AreWellTyped ts → AreWellTyped us → AreOneExactly ts us → term_values words ts ≡ Some rs → term_values words us ≡ Some ss → values_difference rs ≡ values_difference ss
  one_difference ts us rs ss wt wu one et eu =
      difference_value words given ts rs wt (signed words given ts us wt wu ts one.0) et
      ∙ one_total_value words given ts us wt wu one (all_atoms_valued words given ts rs et) (all_atoms_valued words given us ss eu)
      ∙ sym (difference_value words given us ss wu (signed words given ts us wt wu us one.1) eu)

  pub number_difference : (ts : Trees) (rs : List Word) (z : ℤ) → AreWellTyped ts → exact_number ts ≡ Some z → term_values words ts ≡ Some rs → values_difference rs ≡ z
  number_difference ts rs z wt is et = difference_value words given ts rs wt (sign words given ts wt z is) et ∙ number_value words given ts wt z is (all_atoms_valued words given ts rs et)
