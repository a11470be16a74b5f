-- The table of atoms finds each atom from where its digest says, also with one atom more.
use Rattle.std.proofs.Common.{◌≡◌, ℕ, zero, suc, ◌+◌, ◌≤◌, Bool, true, false, cond, Option, Some, None, List, [], ◌∷◌, ◌++◌, length, drop, refl, sym, ap, subst, ◌∙◌, arith, eqb-true, length-append}
use Rattle.std.specs.Prelude.{nat_eq, unwrap_or}
use Rattle.std.specs.HashMap.{get}
use Rattle.ring_forms.specs.declared.atom.Atom.{Atom}
use Rattle.ring_forms.specs.Atoms.{same_entry, atom_number}
use Rattle.ring_forms.specs.Digests.{digest, Starts, start_in, HasStart, IsFrom, AreFound}
use Rattle.ring_forms.proofs.AtomLemmas.{atom_decides}

-- one atom more behind
more_behind : (atoms : List Atom) (b a : Atom) (start : ℕ) → IsFrom atoms start a → IsFrom (atoms ++ b ∷ []) start a
more_behind atoms b a zero h = omega arith
more_behind [] b a (suc i) h = absurd (omega (arith, h))
more_behind (c ∷ cs) b a (suc i) h = by (same_entry c a) h (more_behind cs b a i)
  where
    by : (t : Bool) → suc i + atom_number (drop i cs) a ≡ cond t 0 (suc (atom_number cs a)) → (IsFrom cs i a → IsFrom (cs ++ b ∷ []) i a)
        → suc i + atom_number (drop i (cs ++ b ∷ [])) a ≡ cond t 0 (suc (atom_number (cs ++ b ∷ []) a))
    by true g later = absurd (omega (arith, g))
    by false g later = let same = later (omega (arith, g)) in omega (arith, same)

-- past all, where the one behind is another
past_all : (atoms : List Atom) (b a : Atom) → same_entry b a ≡ false → IsFrom atoms (length atoms) a → IsFrom (atoms ++ b ∷ []) (suc (length atoms)) a
past_all [] b a n h = alone (same_entry b a) n
  where
    alone : (t : Bool) → t ≡ false → 1 + atom_number [] a ≡ cond t 0 (suc (atom_number [] a))
    alone true e = absurd cc
    alone false e = refl
past_all (c ∷ cs) b a n h = by (same_entry c a) h (past_all cs b a n)
  where
    by : (t : Bool) → suc (length cs) + atom_number (drop (length cs) cs) a ≡ cond t 0 (suc (atom_number cs a)) → (IsFrom cs (length cs) a → IsFrom (cs ++ b ∷ []) (suc (length cs)) a)
        → suc (suc (length cs)) + atom_number (drop (suc (length cs)) (cs ++ b ∷ [])) a ≡ cond t 0 (suc (atom_number (cs ++ b ∷ []) a))
    by true g later = absurd (omega (arith, g))
    by false g later = let same = later (omega (arith, g)) in omega (arith, same)

number_small : (atoms : List Atom) (a : Atom) → atom_number atoms a ≤ length atoms
number_small [] a = omega arith
number_small (c ∷ cs) a = by (same_entry c a) (number_small cs a)
  where
    by : (t : Bool) → atom_number cs a ≤ length cs → cond t 0 (suc (atom_number cs a)) ≤ suc (length cs)
    by true later = omega arith
    by false later = omega (arith, later)

nothing_left : (atoms : List Atom) (i : ℕ) → length atoms ≤ i → drop i atoms ≡ []
nothing_left [] zero h = refl
nothing_left [] (suc i) h = refl
nothing_left (c ∷ cs) zero h = absurd (omega (arith, h))
nothing_left (c ∷ cs) (suc i) h = nothing_left cs i (omega (arith, h))

-- an atom that was found nowhere has the next number
pub found_nowhere : (atoms : List Atom) (a : Atom) (i : ℕ) → length atoms ≤ i → IsFrom atoms i a → length atoms ≡ atom_number atoms a
found_nowhere atoms a i h from =
    let ended : atom_number (drop i atoms) a ≡ 0 = ap (λ l. atom_number l a) (nothing_left atoms i h) in
    let small = number_small atoms a in
    omega (arith, h, from, ended, small)

-- ---- what is done to the table

module _ (atoms : List Atom) (starts : Starts) (found : AreFound atoms starts) where
  -- a digest that had no atom begins at the next one
  pub one_start : (later : Starts) (d : ℕ) → start_in starts (length atoms) d ≡ length atoms
      → ((q : ℕ) → get nat_eq later q ≡ cond (nat_eq d q) (Some (length atoms)) (get nat_eq starts q)) → AreFound atoms later
  one_start later d none more a =
      subst (λ n. IsFrom atoms n a) (sym (ap (λ o. unwrap_or o (length atoms)) (more (digest a)) ∙ by (nat_eq d (digest a)) refl)) (found a)
    where
      by : (t : Bool) → nat_eq d (digest a) ≡ t → unwrap_or (cond t (Some (length atoms)) (get nat_eq starts (digest a))) (length atoms) ≡ start_in starts (length atoms) (digest a)
      by true e = sym none ∙ ap (start_in starts (length atoms)) (eqb-true d (digest a) e)
      by false e = refl

  -- an atom more, whose digest has a start
  pub one_more : (b : Atom) (i : ℕ) → get nat_eq starts (digest b) ≡ Some i → AreFound (atoms ++ b ∷ []) starts
  one_more b i has a = by (get nat_eq starts (digest a)) refl
    where
      longer : length (atoms ++ b ∷ []) ≡ suc (length atoms)
      longer = let e = length-append atoms (b ∷ []) in omega (arith, e)

      by : (o : Option ℕ) → get nat_eq starts (digest a) ≡ o → IsFrom (atoms ++ b ∷ []) (start_in starts (length (atoms ++ b ∷ [])) (digest a)) a
      by (Some j) e =
          subst (λ n. IsFrom (atoms ++ b ∷ []) n a) (sym (ap (λ o. unwrap_or o (length (atoms ++ b ∷ []))) e))
          (more_behind atoms b a j (subst (λ n. IsFrom atoms n a) (ap (λ o. unwrap_or o (length atoms)) e) (found a)))
      by None e =
          let other : same_entry b a ≡ false = differ (same_entry b a) refl in
          subst (λ n. IsFrom (atoms ++ b ∷ []) n a) (sym (ap (λ o. unwrap_or o (length (atoms ++ b ∷ []))) e ∙ longer))
          (past_all atoms b a other (subst (λ n. IsFrom atoms n a) (ap (λ o. unwrap_or o (length atoms)) e) (found a)))
        where
          differ : (t : Bool) → same_entry b a ≡ t → t ≡ false
          differ false f = refl
          differ true f = let is : digest b ≡ digest a = ap digest ((atom_decides b a).0 f) in let clash : Some i ≡ (let o : Option ℕ = None in o) = sym has ∙ ap (get nat_eq starts) is ∙ e in cc

-- a start that isn't the count is one
pub has_start : (starts : Starts) (d count : ℕ) → (start_in starts count d ≡ count → ⊥) → HasStart starts d
has_start starts d count other = by (get nat_eq starts d) refl
  where
    by : (o : Option ℕ) → get nat_eq starts d ≡ o → HasStart starts d
    by (Some i) e = (i, e)
    by None e = absurd (other (ap (λ o. unwrap_or o count) e))
