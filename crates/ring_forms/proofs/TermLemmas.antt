-- Terms of other numbers of operands.
use Rattle.std.proofs.Common.{◌≡◌, ℕ, ◌≤◌, ◌<◌, false, List, [], ◌∷◌, ◌++◌, length, refl, arith, append_assoc}
use Rattle.std.specs.Prelude.{Option, Some, None}
use Rattle.pm_wide.specs.Types.{Ty}
use Rattle.pm_term.specs.TermTrees.{trees_of}
use Rattle.pm_term.specs.declared.term.Term.{Term}
use Rattle.ring_forms.specs.RingForms.{has_bits, constant_places}
use Rattle.ring_forms.specs.TableForms.{put_first}
use Rattle.ring_forms.specs.declared.atom.Atom.{Atom}
use Rattle.ring_forms.specs.Places.{prepended}

pub many_have_no_bits : (m : ℕ) (ts : List Term) → 2 ≤ length ts → has_bits m (trees_of ts) ≡ false
many_have_no_bits m [] h = refl
many_have_no_bits m (a ∷ []) h = absurd (omega arith)
many_have_no_bits m (a ∷ b ∷ ts) h = refl

pub many_have_no_places : (ty : Ty) (ts : List Term) → 3 ≤ length ts → constant_places ty (trees_of ts) ≡ (let o : Option ℕ = None in o)
many_have_no_places ty [] h = refl
many_have_no_places ty (a ∷ []) h = refl
many_have_no_places ty (a ∷ b ∷ []) h = absurd (omega arith)
many_have_no_places ty (a ∷ b ∷ c ∷ ts) h = refl

pub few_have_no_places : (ty : Ty) (ts : List Term) → length ts < 2 → constant_places ty (trees_of ts) ≡ (let o : Option ℕ = None in o)
few_have_no_places ty [] h = refl
few_have_no_places ty (a ∷ []) h = refl
few_have_no_places ty (a ∷ b ∷ ts) h = absurd (omega arith)

-- ---- what stands before a reading

pub prepended_first : {X : Type 0} (xs : List X) (x : X) (o : Option (List X × List Atom)) → prepended (xs ++ x ∷ []) o ≡ prepended xs (put_first x o)
prepended_first xs x None = refl
prepended_first xs x (Some r) = λ i. Some (append_assoc xs (x ∷ []) r.0 i, r.1)

pub prepended_none : {X T : Type 0} (o : Option (List X × T)) → prepended [] o ≡ o
prepended_none None = refl
prepended_none (Some r) = refl
