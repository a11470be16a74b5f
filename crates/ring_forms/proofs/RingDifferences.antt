-- Differences are compared modulo 2 ^ m as the definition says.
use Rattle.std.proofs.Common.{◌≡◌, ℕ, suc, ◌+◌, ◌<◌, Bool, true, false, cond, Option, Some, None, List, [], refl, sym, ap, subst, ◌∙◌, arith}
use Rattle.std.specs.Prelude.{IsTrue}
use Rattle.pm_ops.specs.declared.code.Code.TheVariants.{Minus}
use Rattle.pm_wide.specs.Residues.{residue}
use Rattle.pm_wide.specs.Types.{Ty, IsType}
use Rattle.pm_wide.proofs.Values.{width_positive}
use Rattle.pm_term.specs.Trees.{Trees, nil, cons, operations_of, AreWellTyped}
use Rattle.ring_forms.specs.declared.atom.Atom.{Atom}
use Rattle.ring_forms.specs.declared.form.Part.{Part}
use Rattle.ring_forms.specs.Atoms.{same_parts}
use Rattle.ring_forms.specs.Differences.{number_alone, same_among, ring_difference, AreOneModulo, ring_number_by, ring_number}
use Rattle.ring_forms.specs.DifferenceTables.{less, HaveOne, ring_difference_read, AreOneOverTable, number_of, number_read, ring_number_read}
use Rattle.ring_forms.specs.Forms.{constant_form}
use Rattle.ring_forms.specs.RingForms.{expanded, same_form, have_forms, same_atom}
use Rattle.ring_forms.specs.Sums.{coefficient, negated}
use Rattle.ring_forms.specs.TableForms.{combined_form}
use Rattle.ring_forms.proofs.Agreement.{Factors, form_agree, negated_factors, append_factors, coefficient_agree}
use Rattle.ring_forms.proofs.AtomLemmas.{form_decides}
use Rattle.ring_forms.proofs.CleanForms.{Clean, constant_clean, combined_clean}
use Rattle.ring_forms.proofs.FixedTables.{form_over, forms_over, number, StandsFor, stands_for, binary_stands, nothing_stands, constant_stands, all_clean_over}
use Rattle.ring_forms.proofs.FormLimits.{same_numbered, one_form_decides}
use Rattle.ring_forms.proofs.Readings.{HasAll, all_limited, kept_forms, kept_has_all, all_kept_limited, after_all, all_extends, has_all_after, ring_forms_are}
use Rattle.ring_forms.proofs.SameAtoms.{Held, factors, atoms_agree, have_forms_are}
use Rattle.ring_forms.proofs.SameSums.{number_told}

module _ (table : List Atom) (depth m : ℕ) (some : 0 < m) where
  -- the form of a difference, over a table that has its atoms
  abbrev pub difference_over : Trees → List Part
  difference_over ts = combined_form m Minus 0 (forms_over table m ts)

  pub difference_stands : (ts : Trees) → StandsFor (number table) m (difference_over ts) (ring_difference m ts)
  difference_stands nil = nothing_stands (number table) m
  difference_stands (cons t nil) = stands_for table m t
  difference_stands (cons t (cons u nil)) = binary_stands (number table) m Minus 0 (form_over table m t) (form_over table m u) (expanded m t) (expanded m u) (stands_for table m t) (stands_for table m u)
  difference_stands (cons t (cons u (cons s ss))) = nothing_stands (number table) m

  difference_clean : (ts : Trees) → Clean m (difference_over ts)
  difference_clean ts = combined_clean m Minus 0 (forms_over table m ts) (all_clean_over table m some ts)

  difference_factors : (ts : Trees) → HasAll table m ts → AreWellTyped ts → operations_of ts < depth → Factors (Held table depth) (ring_difference m ts)
  difference_factors nil h w o = tt
  difference_factors (cons t nil) h w o = factors table depth m t h.0 w.0 (omega (arith, o))
  difference_factors (cons t (cons u nil)) h w o =
      append_factors (Held table depth) (expanded m t) (negated (expanded m u)) (factors table depth m t h.0 w.0 (omega (arith, o)))
      (negated_factors (Held table depth) (expanded m u) (factors table depth m u h.1.0 w.1.0 (omega (arith, o))))
  difference_factors (cons t (cons u (cons s ss))) h w o = tt

  pub one_modulo : (ts us : Trees) → HasAll table m ts → HasAll table m us → AreWellTyped ts → AreWellTyped us → operations_of ts < depth → operations_of us < depth
      → same_form (same_atom depth) m (ring_difference m ts) (ring_difference m us) ≡ same_parts (difference_over ts) (difference_over us)
  one_modulo ts us ht hu wt wu ot ou =
      form_agree (Held table depth) (same_atom depth) (same_numbered (number table)) (atoms_agree table depth) m (ring_difference m ts) (ring_difference m us) (difference_factors ts ht wt ot) (difference_factors us hu wu ou)
      ∙ one_form_decides (number table) m (difference_over ts) (difference_over us) (ring_difference m ts) (ring_difference m us) (difference_clean ts) (difference_clean us) (difference_stands ts) (difference_stands us)

  -- a number alone
  pub number_over : (ts : Trees) → HasAll table m ts → AreWellTyped ts → operations_of ts < depth → ring_number_by (same_atom depth) m (ring_difference m ts) ≡ number_of (difference_over ts)
  number_over ts h w o =
      (λ i. cond (same_form (same_atom depth) m (ring_difference m ts) (number_alone (one_coefficient i))) (Some (residue m (one_coefficient i))) None)
      ∙ (λ i. cond (is_alone i) (Some (residue m (coefficient (same_numbered (number table)) [] (ring_difference m ts)))) None) ∙ sym (number_told (number table) m (difference_over ts) (ring_difference m ts) (difference_clean ts) (difference_stands ts))
    where
      one_coefficient : coefficient (same_atom depth) [] (ring_difference m ts) ≡ coefficient (same_numbered (number table)) [] (ring_difference m ts)
      one_coefficient = coefficient_agree (Held table depth) (same_atom depth) (same_numbered (number table)) (atoms_agree table depth) [] (ring_difference m ts) tt (difference_factors ts h w o)

      is_alone : same_form (same_atom depth) m (ring_difference m ts) (number_alone (coefficient (same_numbered (number table)) [] (ring_difference m ts)))
          ≡ same_parts (difference_over ts) (constant_form m (coefficient (same_numbered (number table)) [] (ring_difference m ts)))
      is_alone =
          form_agree (Held table depth) (same_atom depth) (same_numbered (number table)) (atoms_agree table depth) m (ring_difference m ts) (number_alone (coefficient (same_numbered (number table)) [] (ring_difference m ts)))
          (difference_factors ts h w o) (tt, tt)
          ∙ one_form_decides (number table) m (difference_over ts) (constant_form m (coefficient (same_numbered (number table)) [] (ring_difference m ts))) (ring_difference m ts)
          (number_alone (coefficient (same_numbered (number table)) [] (ring_difference m ts))) (difference_clean ts) (constant_clean m (coefficient (same_numbered (number table)) [] (ring_difference m ts))) (difference_stands ts)
          (constant_stands (number table) m (coefficient (same_numbered (number table)) [] (ring_difference m ts)))

-- ---- what the code tells

module _ (ty : Ty) (known : IsType ty) (ts us : Trees) (wt : AreWellTyped ts) (wu : AreWellTyped us) where
  abbrev m : ℕ
  m = ty.width

  abbrev depth : ℕ
  depth = suc (operations_of ts + operations_of us)

  abbrev first : List Atom
  first = after_all m ts []

  abbrev both : List Atom
  both = after_all m us first

  some : 0 < m
  some = width_positive ty known

  ht : HasAll both m ts
  ht = kept_has_all first both (all_extends m us first) m ts (has_all_after m ts [])

  hu : HasAll both m us
  hu = has_all_after m us first

  limits_kept : all_limited both m ts ≡ all_limited first m ts
  limits_kept = all_kept_limited first both (all_extends m us first) m ts (has_all_after m ts [])

  form_kept : combined_form m Minus 0 (forms_over both m ts) ≡ combined_form m Minus 0 (forms_over first m ts)
  form_kept = ap (combined_form m Minus 0) (kept_forms first both (all_extends m us first) m ts (has_all_after m ts []))

  abbrev early : List Part
  early = combined_form m Minus 0 (forms_over first m ts)

  abbrev late : Trees → List Part
  late xs = combined_form m Minus 0 (forms_over both m xs)

  abbrev AreRead : Bool → List Part → Bool → List Part → Type 0
  AreRead a f b g = HaveOne (cond a (Some (f, first)) None) (λ last. cond b (Some (g, both)) None)

  abbrev form_or : List Part → Option (List Part × List Atom) → List Part
  form_or f None = f
  form_or f (Some x) = x.0

  parts_of : (a b : Bool) (f g : List Part) → AreRead a f b g → IsTrue a × IsTrue b × IsTrue (same_parts f g)
  parts_of false b f g h = absurd h
  parts_of true false f g h = let is = h.1 in cc
  parts_of true true f g h = (refl, refl, (form_decides f g).1 (sym (ap (form_or f) h.1)))

  of_parts : (a b : Bool) (f g : List Part) → IsTrue a → IsTrue b → IsTrue (same_parts f g) → AreRead a f b g
  of_parts false b f g h i j = cc
  of_parts true false f g h i j = cc
  of_parts true true f g h i j = let is = (form_decides f g).0 j in (both, (λ k. Some (sym is k, both)))

  less_given : (b : Bool) (fs : List (List Part)) (x : List Atom) → less m (cond b (Some (fs, x)) None) ≡ cond b (Some (combined_form m Minus 0 fs, x)) None
  less_given true fs x = refl
  less_given false fs x = refl

  reads : AreOneOverTable m ts us ≡ AreRead (all_limited first m ts) early (all_limited both m us) (late us)
  reads =
      (λ i. HaveOne (less m (ring_forms_are m ts [] i)) (ring_difference_read m us)) ∙ (λ i. HaveOne (less_given (all_limited first m ts) (forms_over first m ts) first i) (ring_difference_read m us)) ∙ by (all_limited first m ts)
    where
      second : ring_difference_read m us first ≡ cond (all_limited both m us) (Some (late us, both)) None
      second = ap (less m) (ring_forms_are m us first) ∙ less_given (all_limited both m us) (forms_over both m us) both

      by : (a : Bool) → HaveOne (cond a (Some (early, first)) None) (ring_difference_read m us) ≡ AreRead a early (all_limited both m us) (late us)
      by false = refl
      by true = λ i. (last : List Atom) × (second i ≡ Some (early, last))

  limits_ts : have_forms (same_among ts us) m ts ≡ all_limited both m ts
  limits_ts = have_forms_are both depth m some ts ht wt (omega arith)

  limits_us : have_forms (same_among ts us) m us ≡ all_limited both m us
  limits_us = have_forms_are both depth m some us hu wu (omega arith)

  one : same_form (same_among ts us) m (ring_difference m ts) (ring_difference m us) ≡ same_parts (late ts) (late us)
  one = one_modulo both depth m some ts us ht hu wt wu (omega arith) (omega arith)

  pub one_over_table : AreOneModulo ty.width ts us → AreOneOverTable ty.width ts us
  one_over_table h =
      subst (λ (A : Type 0). A) (sym reads)
      (of_parts (all_limited first m ts) (all_limited both m us) early (late us) (sym limits_kept ∙ sym limits_ts ∙ h.0) (sym limits_us ∙ h.1) (ap (λ f. same_parts f (late us)) (sym form_kept) ∙ sym one ∙ h.2))

  pub one_by_definition : AreOneOverTable ty.width ts us → AreOneModulo ty.width ts us
  one_by_definition h =
      let parts = parts_of (all_limited first m ts) (all_limited both m us) early (late us) (subst (λ (A : Type 0). A) reads h) in (
        limits_ts ∙ limits_kept ∙ parts.0,
        limits_us ∙ parts.1,
        one ∙ ap (λ f. same_parts f (late us)) form_kept ∙ parts.2,
      )

pub number_is : (ty : Ty) (ts : Trees) → IsType ty → AreWellTyped ts → ring_number_read ty.width ts ≡ ring_number ty.width ts
number_is ty ts known w =
    ap (λ o. number_read (less ty.width o)) (ring_forms_are ty.width ts []) ∙ by (all_limited (first ty known ts nil w tt) ty.width ts)
    ∙ (λ i. cond (sym (limits_ts ty known ts nil w tt) i) (ring_number_by (same_among ts nil) ty.width (ring_difference ty.width ts)) None)
  where
    by : (b : Bool) → number_read (less ty.width (cond b (Some (forms_over (first ty known ts nil w tt) ty.width ts, first ty known ts nil w tt)) None))
        ≡ cond b (ring_number_by (same_among ts nil) ty.width (ring_difference ty.width ts)) None
    by false = refl
    by true = sym (number_over (first ty known ts nil w tt) (depth ty known ts nil w tt) ty.width (width_positive ty known) ts (ht ty known ts nil w tt) w (omega arith))
