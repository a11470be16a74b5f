-- Tables of atoms: what is added to them, and the numbers that give each atom its value.
use Rattle.std.proofs.Common.{◌≡◌, ℕ, suc, ◌+◌, ◌≤◌, ◌<◌, Bool, true, false, cond, List, [], ◌∷◌, ◌++◌, length, get_or, refl, sym, ap, subst, ◌∙◌, arith, length-append}
use Rattle.std.proofs.lemmas.List.{get_or_append_left}
use Rattle.std.specs.Prelude.{ℤ, pos, ⊤}
use Rattle.pm_wide.specs.Types.{Ty, Word}
use Rattle.ring_forms.specs.declared.atom.Atom.{Atom}
use Rattle.ring_forms.specs.Atoms.{same_entry, atom_number, with_new_atom}
use Rattle.ring_forms.proofs.AtomLemmas.{atom_decides}
use Rattle.ring_forms.proofs.FormBounds.{AtomBelow, atom_value, atom_agrees}

-- each atom is made of earlier ones, counting from n
abbrev pub OrderedFrom : ℕ → List Atom → Type 0
OrderedFrom n [] = ⊤
OrderedFrom n (a ∷ rest) = AtomBelow n a × OrderedFrom (suc n) rest

-- each number is the value of its atom, counting from n
abbrev pub ConsistentFrom : (ℕ → Ty → Word) → (ℕ → ℤ) → ℕ → List Atom → Type 0
ConsistentFrom words v n [] = ⊤
ConsistentFrom words v n (a ∷ rest) = (v n ≡ atom_value words v a) × ConsistentFrom words v (suc n) rest

pub number_below : (table : List Atom) (a : Atom) → atom_number table a < length (with_new_atom table a)
number_below [] a = omega arith
number_below (b ∷ bs) a = by (same_entry b a) (number_below bs a)
  where
    by : (t : Bool) → atom_number bs a < length (with_new_atom bs a) → cond t 0 (suc (atom_number bs a)) < length (cond t (b ∷ bs) (b ∷ with_new_atom bs a))
    by true later = omega arith
    by false later = omega arith

pub new_longer : (table : List Atom) (a : Atom) → length table ≤ length (with_new_atom table a)
new_longer [] a = omega arith
new_longer (b ∷ bs) a = by (same_entry b a) (new_longer bs a)
  where
    by : (t : Bool) → length bs ≤ length (with_new_atom bs a) → suc (length bs) ≤ length (cond t (b ∷ bs) (b ∷ with_new_atom bs a))
    by true later = omega arith
    by false later = omega arith

pub new_ordered : (n k : ℕ) (table : List Atom) (a : Atom) → k ≡ n + length table → OrderedFrom n table → AtomBelow k a → OrderedFrom n (with_new_atom table a)
new_ordered n k [] a e h g = (let f : k ≡ n = omega arith in subst (λ i. AtomBelow i a) f g, tt)
new_ordered n k (b ∷ bs) a e h g = by (same_entry b a) (new_ordered (suc n) k bs a (omega arith) h.1 g)
  where
    by : (t : Bool) → OrderedFrom (suc n) (with_new_atom bs a) → OrderedFrom n (cond t (b ∷ bs) (b ∷ with_new_atom bs a))
    by true later = h
    by false later = (h.0, later)

module _ (words : ℕ → Ty → Word) (v : ℕ → ℤ) where
  pub older : (n : ℕ) (table : List Atom) (a : Atom) → ConsistentFrom words v n (with_new_atom table a) → ConsistentFrom words v n table
  older n [] a h = tt
  older n (b ∷ bs) a h = by (same_entry b a) h (older (suc n) bs a)
    where
      by : (t : Bool) → ConsistentFrom words v n (cond t (b ∷ bs) (b ∷ with_new_atom bs a)) → (ConsistentFrom words v (suc n) (with_new_atom bs a) → ConsistentFrom words v (suc n) bs) → ConsistentFrom words v n (b ∷ bs)
      by true g later = g
      by false g later = (g.0, later g.1)

  pub newest : (n : ℕ) (table : List Atom) (a : Atom) → ConsistentFrom words v n (with_new_atom table a) → v (n + atom_number table a) ≡ atom_value words v a
  newest n [] a h = let e : n + 0 ≡ n = omega arith in ap v e ∙ h.0
  newest n (b ∷ bs) a h = by (same_entry b a) refl h (newest (suc n) bs a)
    where
      by : (t : Bool) → same_entry b a ≡ t → ConsistentFrom words v n (cond t (b ∷ bs) (b ∷ with_new_atom bs a))
          → (ConsistentFrom words v (suc n) (with_new_atom bs a) → v (suc n + atom_number bs a) ≡ atom_value words v a) → v (n + cond t 0 (suc (atom_number bs a))) ≡ atom_value words v a
      by true e g later = let f : n + 0 ≡ n = omega arith in ap v f ∙ g.0 ∙ ap (atom_value words v) ((atom_decides b a).0 e)
      by false e g later = let f : n + suc (atom_number bs a) ≡ suc n + atom_number bs a = omega arith in ap v f ∙ later g.1

-- ---- values, one after another

abbrev pub at : List ℤ → ℕ → ℤ
at xs k = get_or xs k (pos 0)

module _ (words : ℕ → Ty → Word) where
  abbrev pub values_from : List ℤ → List Atom → List ℤ
  values_from xs [] = xs
  values_from xs (a ∷ rest) = values_from (xs ++ atom_value words (at xs) a ∷ []) rest

  kept : (xs : List ℤ) (table : List Atom) (k : ℕ) → k < length xs → at (values_from xs table) k ≡ at xs k
  kept xs [] k h = refl
  kept xs (a ∷ rest) k h =
      kept (xs ++ atom_value words (at xs) a ∷ []) rest k (omega (arith, length-append xs (atom_value words (at xs) a ∷ [])))
      ∙ get_or_append_left xs (atom_value words (at xs) a ∷ []) (pos 0) k h

  pushed : (xs : List ℤ) (x : ℤ) → at (xs ++ x ∷ []) (length xs) ≡ x
  pushed [] x = refl
  pushed (y ∷ ys) x = pushed ys x

  pub consistent : (xs : List ℤ) (n : ℕ) (table : List Atom) → n ≡ length xs → OrderedFrom n table → ConsistentFrom words (at (values_from xs table)) n table
  consistent xs n [] e h = tt
  consistent xs n (a ∷ rest) e h =
      let x = atom_value words (at xs) a in
      let longer : length (xs ++ atom_value words (at xs) a ∷ []) ≡ suc n = omega (arith, length-append xs (atom_value words (at xs) a ∷ [])) in
      let final = at (values_from (xs ++ atom_value words (at xs) a ∷ []) rest) in
      let agree : (k : ℕ) → k < n → at xs k ≡ at (values_from (xs ++ atom_value words (at xs) a ∷ []) rest) k = λ k b. sym (kept xs (a ∷ rest) k (omega arith)) in
      let here : at (values_from (xs ++ atom_value words (at xs) a ∷ []) rest) n ≡ atom_value words (at xs) a
      = kept (xs ++ atom_value words (at xs) a ∷ []) rest n (omega arith) ∙ ap (at (xs ++ atom_value words (at xs) a ∷ [])) e ∙ pushed xs (atom_value words (at xs) a) in (
        here ∙ atom_agrees (at xs) (at (values_from (xs ++ atom_value words (at xs) a ∷ []) rest)) n agree words a h.0,
        consistent (xs ++ atom_value words (at xs) a ∷ []) (suc n) rest (sym longer) h.1,
      )
