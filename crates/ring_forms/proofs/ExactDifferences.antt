-- Differences are compared over whole numbers as the definition says.
use Rattle.std.proofs.Common.{◌≡◌, ℕ, suc, ◌+◌, ◌<◌, ◌≤◌, ◌^◌, ◌%◌, Bool, true, false, not, cond, ◌&&◌, Option, Some, None, List, [], refl, sym, ap, subst, ◌∙◌, arith}
use Rattle.std.specs.Prelude.{ℤ, pos, ◌+ℤ◌, ◌*ℤ◌, IsTrue, nat_eq}
use Rattle.std.specs.Cmp.Lexicographic.{pointwise}
use Rattle.std.specs.Int.RustNames.{unsigned_abs}
use Rattle.std.proofs.lemmas.Bool.{and_parts, and_from}
use Rattle.std.proofs.lemmas.Int.{ints}
use Rattle.pm_ops.specs.declared.code.Code.TheVariants.{Minus}
use Rattle.pm_wide.specs.Residues.{residue}
use Rattle.pm_wide.specs.Types.{Word, value, int128_type}
use Rattle.pm_term.specs.Trees.{Tree, Trees, nil, cons, type_of, operations_of, AreWellTyped}
use Rattle.ring_forms.specs.declared.exact.Reading.{Reading}
use Rattle.ring_forms.specs.declared.form.Part.{Part}
use Rattle.ring_forms.specs.Atoms.{same_parts}
use Rattle.ring_forms.specs.Differences.{number_alone, same_among, same_exactly, all_signed, exact_difference, AreOneExactly, exact_number_by, exact_number}
use Rattle.ring_forms.specs.DifferenceTables.{less, HaveOne, exact_difference_read, AreOneOverReading, number_of, number_read, word_or_none, exact_number_read}
use Rattle.ring_forms.specs.ExactForms.{exactly_expanded, have_exact_parts}
use Rattle.ring_forms.specs.ExactTables.{blank}
use Rattle.ring_forms.specs.Forms.{constant_form}
use Rattle.ring_forms.specs.RingForms.{same_atom}
use Rattle.ring_forms.specs.Sums.{Sum, coefficient, negated}
use Rattle.ring_forms.specs.TableForms.{combined_form}
use Rattle.ring_forms.proofs.Agreement.{Factors, negated_factors, append_factors, coefficient_agree}
use Rattle.ring_forms.proofs.AtomLemmas.{form_decides}
use Rattle.ring_forms.proofs.CleanForms.{Clean, hit, constant_clean, combined_clean}
use Rattle.ring_forms.proofs.ExactLimits.{met_number, HeldMet, exact_stands, all_exact_clean, exact_parts_are, good_read, limited_coefficient, negated_bound, held_factors, met_agree}
use Rattle.ring_forms.proofs.ExactReadings.{exact_over, exacts_over, AllMet, exact_limited, all_exact_limited, kept_exacts, kept_all_met, kept_all_limited, all_afterwards, all_further, all_met_afterwards, exact_reads_are}
use Rattle.ring_forms.proofs.FixedTables.{total_append, numbers, StandsFor, binary_stands, nothing_stands, constant_stands}
use Rattle.ring_forms.proofs.FormLimits.{same_numbered, numbered, coefficient_numbered, one_form_decides}
use Rattle.ring_forms.proofs.SameSums.{Limited, exactly_is, exactly_agree, residue_value, number_told}
use Rattle.ring_forms.proofs.WholeTotals.{size_sum}

pub signed_first : (u rest : Bool) → (not u && rest) ≡ true → u ≡ false
signed_first true rest h = cc
signed_first false rest h = refl

pub signed_rest : (u rest : Bool) → (not u && rest) ≡ true → rest ≡ true
signed_rest true rest h = cc
signed_rest false rest h = h

-- the value of a word that is told
abbrev pub value_or_none : Option Word → Option ℤ
value_or_none None = None
value_or_none (Some w) = Some (value w)

module _ (r : Reading) (depth : ℕ) where
  -- the form of a difference, over what is met in all
  abbrev pub difference_over : Trees → List Part
  difference_over ts = combined_form 128 Minus 0 (exacts_over r ts)

  pub difference_stands : (ts : Trees) → StandsFor (met_number r) 128 (difference_over ts) (exact_difference ts)
  difference_stands nil = nothing_stands (met_number r) 128
  difference_stands (cons t nil) = exact_stands r t
  difference_stands (cons t (cons u nil)) = binary_stands (met_number r) 128 Minus 0 (exact_over r t) (exact_over r u) (exactly_expanded t) (exactly_expanded u) (exact_stands r t) (exact_stands r u)
  difference_stands (cons t (cons u (cons s ss))) = nothing_stands (met_number r) 128

  pub difference_clean : (ts : Trees) → Clean 128 (difference_over ts)
  difference_clean ts = combined_clean 128 Minus 0 (exacts_over r ts) (all_exact_clean r ts)

  pub difference_factors : (ts : Trees) → AllMet r ts → AreWellTyped ts → operations_of ts < depth → Factors (HeldMet r depth) (exact_difference ts)
  difference_factors nil h w o = tt
  difference_factors (cons t nil) h w o = held_factors r depth t h.0 w.0 (omega (arith, o))
  difference_factors (cons t (cons u nil)) h w o =
      append_factors (HeldMet r depth) (exactly_expanded t) (negated (exactly_expanded u)) (held_factors r depth t h.0 w.0 (omega (arith, o)))
      (negated_factors (HeldMet r depth) (exactly_expanded u) (held_factors r depth u h.1.0 w.1.0 (omega (arith, o))))
  difference_factors (cons t (cons u (cons s ss))) h w o = tt

  small_number : (k : List ℕ) (t : Tree) → AreWellTyped (cons t nil) → (type_of t).unsigned ≡ false → exact_limited r t ≡ true → unsigned_abs (numbered (met_number r) k (exactly_expanded t)) ≤ 2 ^ 62
  small_number k t w u l = limited_coefficient r (exact_over r t) (exactly_expanded t) (good_read r t w.0 u l) k

  small_negative : (k : List ℕ) (t : Tree) → AreWellTyped (cons t nil) → (type_of t).unsigned ≡ false → exact_limited r t ≡ true → unsigned_abs (numbered (met_number r) k (negated (exactly_expanded t))) ≤ 2 ^ 62
  small_negative k t w u l = negated_bound r (exact_over r t) (exactly_expanded t) (good_read r t w.0 u l) k

  -- coefficients of differences are small
  pub difference_small : (ts : Trees) → AreWellTyped ts → all_signed ts ≡ true → all_exact_limited r ts ≡ true → (k : List ℕ) → unsigned_abs (numbered (met_number r) k (exact_difference ts)) ≤ 2 ^ 63
  difference_small nil w s l k = omega arith
  difference_small (cons t nil) w s l k =
      let one = small_number k t w (signed_first (type_of t).unsigned _ s) (and_parts (exact_limited r t) true l).0 in omega (arith, one)
  difference_small (cons t (cons u nil)) w s l k =
      let parts = and_parts (exact_limited r t) (exact_limited r u && true) l in
      let first = small_number k t (w.0, tt) (signed_first (type_of t).unsigned _ s) parts.0 in
      let second = small_negative k u (w.1.0, tt) (signed_first (type_of u).unsigned _ (signed_rest (type_of t).unsigned _ s)) (and_parts (exact_limited r u) true parts.1).0 in
      let whole_size = size_sum (numbered (met_number r) k (exactly_expanded t)) (numbered (met_number r) k (negated (exactly_expanded u))) in
      subst (λ z. unsigned_abs z ≤ 2 ^ 63) (sym (total_append (λ p. hit k (numbers (met_number r) p)) (exactly_expanded t) (negated (exactly_expanded u)))) (omega (arith, whole_size, first, second))
  difference_small (cons t (cons u (cons x xs))) w s l k = omega arith

  pub difference_limited : (ts : Trees) → AreWellTyped ts → all_signed ts ≡ true → all_exact_limited r ts ≡ true → Limited (met_number r) (exact_difference ts)
  difference_limited ts w s l k = let size = difference_small ts w s l k in omega (arith, size)

  pub parts_are : (ts : Trees) → AllMet r ts → AreWellTyped ts → all_signed ts ≡ true → operations_of ts < depth → have_exact_parts (same_atom depth) ts ≡ all_exact_limited r ts
  parts_are nil h w s o = refl
  parts_are (cons t ts) h w s o =
      λ i. exact_parts_are r depth t h.0 w.0 (signed_first (type_of t).unsigned _ s) (omega arith) i && parts_are ts h.1 w.1 (signed_rest (type_of t).unsigned _ s) (omega arith) i

  module _ (ts us : Trees) (ht : AllMet r ts) (hu : AllMet r us) (wt : AreWellTyped ts) (wu : AreWellTyped us) (st : all_signed ts ≡ true) (su : all_signed us ≡ true)
      (ot : operations_of ts < depth) (ou : operations_of us < depth) (lt : all_exact_limited r ts ≡ true) (lu : all_exact_limited r us ≡ true) where
    pub by_numbers : same_exactly (same_atom depth) (exact_difference ts) (exact_difference us) ≡ same_exactly (same_numbered (met_number r)) (exact_difference ts) (exact_difference us)
    by_numbers =
        exactly_agree (HeldMet r depth) (same_atom depth) (same_numbered (met_number r)) (met_agree r depth) (exact_difference ts) (exact_difference us) (difference_factors ts ht wt ot) (difference_factors us hu wu ou)

    pub one_exactly : same_exactly (same_atom depth) (exact_difference ts) (exact_difference us) ≡ same_parts (difference_over ts) (difference_over us)
    one_exactly =
        by_numbers ∙ exactly_is (met_number r) (exact_difference ts) (exact_difference us) (difference_limited ts wt st lt) (difference_limited us wu su lu)
        ∙ one_form_decides (met_number r) 128 (difference_over ts) (difference_over us) (exact_difference ts) (exact_difference us) (difference_clean ts) (difference_clean us) (difference_stands ts) (difference_stands us)

  -- ---- a number alone

  module _ (ts : Trees) (ht : AllMet r ts) (wt : AreWellTyped ts) (st : all_signed ts ≡ true) (ot : operations_of ts < depth) (lt : all_exact_limited r ts ≡ true) where
    abbrev s : Sum Tree
    s = exact_difference ts

    abbrev f : List Part
    f = difference_over ts

    abbrev pub by_atoms : ℤ
    by_atoms = coefficient (same_atom depth) [] s

    abbrev pub by_number : ℤ
    by_number = coefficient (same_numbered (met_number r)) [] s

    pub one_coefficient : by_atoms ≡ by_number
    one_coefficient = coefficient_agree (HeldMet r depth) (same_atom depth) (same_numbered (met_number r)) (met_agree r depth) [] s tt (difference_factors ts ht wt ot)

    pub size : unsigned_abs by_number ≤ 2 ^ 63
    size = subst (λ z. unsigned_abs z ≤ 2 ^ 63) (sym (coefficient_numbered (met_number r) [] s)) (difference_small ts wt st lt [])

    pub alone_limited : (z : ℤ) → unsigned_abs z ≤ 2 ^ 63 → Limited (met_number r) (number_alone z)
    alone_limited z h k = by (pointwise nat_eq k [])
      where
        by : (t : Bool) → unsigned_abs (z *ℤ cond t (pos 1) (pos 0) +ℤ pos 0) ≤ 2 ^ 126
        by true = omega (arith, ints, h)
        by false = omega (arith, ints)

    is_alone : same_exactly (same_atom depth) s (number_alone by_number) ≡ same_parts f (constant_form 128 by_number)
    is_alone =
        exactly_agree (HeldMet r depth) (same_atom depth) (same_numbered (met_number r)) (met_agree r depth) s (number_alone by_number) (difference_factors ts ht wt ot) (tt, tt)
        ∙ exactly_is (met_number r) s (number_alone by_number) (difference_limited ts wt st lt) (alone_limited by_number size)
        ∙ one_form_decides (met_number r) 128 f (constant_form 128 by_number) s (number_alone by_number) (difference_clean ts) (constant_clean 128 by_number) (difference_stands ts) (constant_stands (met_number r) 128 by_number)

    pub number_over : exact_number_by (same_atom depth) s ≡ value_or_none (word_or_none (number_of f))
    number_over =
        (λ i. cond (same_exactly (same_atom depth) s (number_alone (one_coefficient i))) (Some (one_coefficient i)) None)
        ∙ (λ i. cond (is_alone i) (Some by_number) None) ∙ by (same_parts f (constant_form 128 by_number)) ∙ ap (λ o. value_or_none (word_or_none o)) (sym (number_told (met_number r) 128 f s (difference_clean ts) (difference_stands ts)))
      where
        by : (b : Bool) → cond b (Some by_number) None ≡ value_or_none (word_or_none (cond b (Some (residue 128 by_number)) None))
        by true = ap Some (sym (residue_value by_number (omega (arith, size))))
        by false = refl

-- ---- what the code tells

module _ (ts us : Trees) (wt : AreWellTyped ts) (wu : AreWellTyped us) where
  abbrev pub depth : ℕ
  depth = suc (operations_of ts + operations_of us)

  abbrev pub first : Reading
  first = all_afterwards ts blank

  abbrev pub r : Reading
  r = all_afterwards us first

  pub ht : AllMet r ts
  ht = kept_all_met first r (all_further us first) ts (all_met_afterwards ts blank)

  pub hu : AllMet r us
  hu = all_met_afterwards us first

  pub limits_kept : all_exact_limited r ts ≡ all_exact_limited first ts
  limits_kept = kept_all_limited first r (all_further us first) ts (all_met_afterwards ts blank)

  form_kept : difference_over r depth ts ≡ difference_over first depth ts
  form_kept = ap (combined_form 128 Minus 0) (kept_exacts first r (all_further us first) ts (all_met_afterwards ts blank))

  abbrev AreRead : Bool → List Part → Bool → List Part → Type 0
  AreRead a f b g = HaveOne (cond a (Some (f, first)) None) (λ last. cond b (Some (g, r)) None)

  abbrev form_or : List Part → Option (List Part × Reading) → List Part
  form_or f None = f
  form_or f (Some x) = x.0

  parts_of : (a b : Bool) (f g : List Part) → AreRead a f b g → IsTrue a × IsTrue b × IsTrue (same_parts f g)
  parts_of false b f g h = absurd h
  parts_of true false f g h = let is = h.1 in cc
  parts_of true true f g h = (refl, refl, (form_decides f g).1 (sym (ap (form_or f) h.1)))

  of_parts : (a b : Bool) (f g : List Part) → IsTrue a → IsTrue b → IsTrue (same_parts f g) → AreRead a f b g
  of_parts false b f g h i j = cc
  of_parts true false f g h i j = cc
  of_parts true true f g h i j = let is = (form_decides f g).0 j in (r, (λ k. Some (sym is k, r)))

  less_given : (b : Bool) (fs : List (List Part)) (x : Reading) → less 128 (cond b (Some (fs, x)) None) ≡ cond b (Some (combined_form 128 Minus 0 fs, x)) None
  less_given true fs x = refl
  less_given false fs x = refl

  reads : HaveOne (exact_difference_read ts blank) (exact_difference_read us) ≡ AreRead (all_exact_limited first ts) (difference_over first depth ts) (all_exact_limited r us) (difference_over r depth us)
  reads =
      (λ i. HaveOne (less 128 (exact_reads_are ts blank i)) (exact_difference_read us)) ∙ (λ i. HaveOne (less_given (all_exact_limited first ts) (exacts_over first ts) first i) (exact_difference_read us)) ∙ by (all_exact_limited first ts)
    where
      second : exact_difference_read us first ≡ cond (all_exact_limited r us) (Some (difference_over r depth us, r)) None
      second = ap (less 128) (exact_reads_are us first) ∙ less_given (all_exact_limited r us) (exacts_over r us) r

      by : (a : Bool) → HaveOne (cond a (Some (difference_over first depth ts, first)) None) (exact_difference_read us) ≡ AreRead a (difference_over first depth ts) (all_exact_limited r us) (difference_over r depth us)
      by false = refl
      by true = λ i. (last : Reading) × (second i ≡ Some (difference_over first depth ts, last))

  pub one_over_reading : AreOneExactly ts us → AreOneOverReading ts us
  one_over_reading h =
      let pt = and_parts (all_signed ts) (have_exact_parts (same_among ts us) ts) h.0 in
      let pu = and_parts (all_signed us) (have_exact_parts (same_among ts us) us) h.1 in
      let lt : all_exact_limited r ts ≡ true = sym (parts_are r depth ts ht wt pt.0 (omega arith)) ∙ pt.1 in
      let lu : all_exact_limited r us ≡ true = sym (parts_are r depth us hu wu pu.0 (omega arith)) ∙ pu.1 in
      let same : same_parts (difference_over r depth ts) (difference_over r depth us) ≡ true = sym (one_exactly r depth ts us ht hu wt wu pt.0 pu.0 (omega arith) (omega arith) lt lu) ∙ h.2 in (
        pt.0,
        pu.0,
        subst (λ (A : Type 0). A) (sym reads)
            (of_parts (all_exact_limited first ts) (all_exact_limited r us) (difference_over first depth ts) (difference_over r depth us) (sym limits_kept ∙ lt) lu
            (ap (λ f. same_parts f (difference_over r depth us)) (sym form_kept) ∙ same)),
      )

  pub one_by_definition : AreOneOverReading ts us → AreOneExactly ts us
  one_by_definition h =
      let parts = parts_of (all_exact_limited first ts) (all_exact_limited r us) (difference_over first depth ts) (difference_over r depth us) (subst (λ (A : Type 0). A) reads h.2) in
      let lt : all_exact_limited r ts ≡ true = limits_kept ∙ parts.0 in (
        and_from (all_signed ts) (have_exact_parts (same_among ts us) ts) h.0 (parts_are r depth ts ht wt h.0 (omega arith) ∙ lt),
        and_from (all_signed us) (have_exact_parts (same_among ts us) us) h.1 (parts_are r depth us hu wu h.1 (omega arith) ∙ parts.1),
        one_exactly r depth ts us ht hu wt wu h.0 h.1 (omega arith) (omega arith) lt parts.1 ∙ ap (λ f. same_parts f (difference_over r depth us)) form_kept ∙ parts.2,
      )

module _ (ts : Trees) (wt : AreWellTyped ts) where
  pub number_is : exact_number ts ≡ value_or_none (exact_number_read ts)
  number_is = by (all_signed ts) refl
    where
      alone : (b : Bool) → all_exact_limited (first ts nil wt tt) ts ≡ b → all_signed ts ≡ true
          → cond b (exact_number_by (same_among ts nil) (exact_difference ts)) None
          ≡ value_or_none (word_or_none (number_read (less 128 (cond b (Some (exacts_over (first ts nil wt tt) ts, first ts nil wt tt)) None))))
      alone false e s = refl
      alone true e s = number_over (first ts nil wt tt) (depth ts nil wt tt) ts (ht ts nil wt tt) wt s (omega arith) e

      by : (b : Bool) → all_signed ts ≡ b
          → cond (b && have_exact_parts (same_among ts nil) ts) (exact_number_by (same_among ts nil) (exact_difference ts)) None ≡ value_or_none (cond b (word_or_none (number_read (exact_difference_read ts blank))) None)
      by false s = refl
      by true s =
          ap (λ b. cond b (exact_number_by (same_among ts nil) (exact_difference ts)) None) (parts_are (first ts nil wt tt) (depth ts nil wt tt) ts (ht ts nil wt tt) wt s (omega arith))
          ∙ alone (all_exact_limited (first ts nil wt tt) ts) refl s ∙ ap (λ o. value_or_none (word_or_none (number_read (less 128 o)))) (sym (exact_reads_are ts blank))

  typed : (o : Option ℕ) (w : Word) → word_or_none o ≡ Some w → w.ty ≡ int128_type
  typed None w e = cc
  typed (Some n) w e = let is : record { bits = n % 2 ^ 128; ty = int128_type } ≡ w = cc in ap (λ (x : Word). x.ty) (sym is)

  pub no_number : exact_number_read ts ≡ (let o : Option Word = None in o) → exact_number ts ≡ (let o : Option ℤ = None in o)
  no_number e = number_is ∙ ap value_or_none e

  pub one_number : (w : Word) → exact_number_read ts ≡ Some w → (exact_number ts ≡ Some (value w)) × (w.ty ≡ int128_type)
  one_number w e = (number_is ∙ ap value_or_none e, by (all_signed ts) e)
    where
      by : (b : Bool) → cond b (word_or_none (number_read (exact_difference_read ts blank))) None ≡ Some w → w.ty ≡ int128_type
      by true f = typed (number_read (exact_difference_read ts blank)) w f
      by false f = cc
