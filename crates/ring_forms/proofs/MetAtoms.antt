-- The nodes that are kept when an exact form is read are the atoms of the term as they are first met,
-- and an atom's number is its place among them.
use Rattle.std.proofs.Common.{◌≡◌, ℕ, zero, suc, ◌<◌, ◌≤◌, ◌==◌, Bool, true, false, not, cond, ◌&&◌, ◌||◌, List, [], ◌∷◌, ◌++◌, map, length, refl, sym, ap, subst, ◌∙◌, arith}
use Rattle.std.specs.Prelude.{bytes_eq, ⊤}
use Rattle.std.specs.List.{list_any, AllByRecursion}
use Rattle.std.proofs.lemmas.Bool.Decides.{nat_tests}
use Rattle.pm_ops.specs.Names.{code_name}
use Rattle.pm_wide.specs.Types.{same_type}
use Rattle.pm_term.specs.Trees.{Tree, name, constant, node, Trees, nil, cons, operations, operations_of, IsWellTyped, AreWellTyped}
use Rattle.ring_forms.specs.declared.atom.Atom.{Atom}
use Rattle.ring_forms.specs.declared.atom.Atom.TheVariants.{Name, Operation}
use Rattle.ring_forms.specs.declared.exact.Reading.{Reading}
use Rattle.ring_forms.specs.Atoms.{same_entry, atom_number, with_new_atom}
use Rattle.ring_forms.specs.ExactForms.{goes_exactly, atoms_in, atoms_of, with_met, place_in}
use Rattle.ring_forms.specs.ExactTables.{with_node, met}
use Rattle.ring_forms.specs.RingForms.{same_atom}
use Rattle.ring_forms.proofs.Agreement.{all_append}
use Rattle.ring_forms.proofs.ExactReadings.{afterwards, all_afterwards, with_atom_met, all_further}
use Rattle.ring_forms.proofs.FixedTables.{operands_over, entry}
use Rattle.ring_forms.proofs.Readings.{Extends, HasFull, further, after_full, has_full_after, kept_operands, kept_has_full}
use Rattle.ring_forms.proofs.SameAtoms.{operands_are, atoms_agree}

-- ---- lists of nodes and of their entries

module _ (E : Tree → Atom) (x : Atom) where
  abbrev found : List Tree → Bool
  found nodes = list_any (λ b. same_entry (E b) x) nodes

  new_entry : (a : Tree) (nodes : List Tree) → E a ≡ x → with_new_atom (map E nodes) x ≡ map E (cond (found nodes) nodes (nodes ++ a ∷ []))
  new_entry a [] e = λ i. sym e i ∷ []
  new_entry a (b ∷ bs) e = by (same_entry (E b) x) (found bs) (new_entry a bs e)
    where
      by : (s t : Bool) → with_new_atom (map E bs) x ≡ map E (cond t bs (bs ++ a ∷ [])) → cond s (E b ∷ map E bs) (E b ∷ with_new_atom (map E bs) x) ≡ map E (cond (s || t) (b ∷ bs) (b ∷ bs ++ a ∷ []))
      by true t later = refl
      by false true later = ap (λ xs. E b ∷ xs) later
      by false false later = ap (λ xs. E b ∷ xs) later

  number_small : (nodes : List Tree) → atom_number (map E nodes) x ≤ length nodes
  number_small [] = omega arith
  number_small (b ∷ bs) = by (same_entry (E b) x) (number_small bs)
    where
      by : (s : Bool) → atom_number (map E bs) x ≤ length bs → cond s 0 (suc (atom_number (map E bs) x)) ≤ suc (length bs)
      by true h = omega arith
      by false h = omega (arith, h)

  number_new : (nodes : List Tree) → (atom_number (map E nodes) x == length nodes) ≡ not (found nodes)
  number_new [] = refl
  number_new (b ∷ bs) = by (same_entry (E b) x) (found bs) (number_new bs)
    where
      by : (s t : Bool) → (atom_number (map E bs) x == length bs) ≡ not t → (cond s 0 (suc (atom_number (map E bs) x)) == suc (length bs)) ≡ not (s || t)
      by true t h = grind (arith, nat_tests)
      by false true h = grind (arith, nat_tests, h)
      by false false h = grind (arith, nat_tests, h)

  new_node : (a : Tree) (nodes : List Tree) → with_node (atom_number (map E nodes) x) a nodes ≡ cond (found nodes) nodes (nodes ++ a ∷ [])
  new_node a nodes = ap (λ t. cond t (nodes ++ a ∷ []) nodes) (number_new nodes) ∙ by (found nodes)
    where
      by : (t : Bool) → cond (not t) (nodes ++ a ∷ []) nodes ≡ cond t nodes (nodes ++ a ∷ [])
      by true = refl
      by false = refl

with_met_append : (same : Tree → Tree → Bool) (met xs ys : List Tree) → with_met same met (xs ++ ys) ≡ with_met same (with_met same met xs) ys
with_met_append same met [] ys = refl
with_met_append same met (x ∷ xs) ys = with_met_append same (cond (list_any (λ b. same b x) met) met (met ++ x ∷ [])) xs ys

-- ---- atoms by the table of what stands in them

module _ (table : List Atom) (depth : ℕ) where
  abbrev Inside : Tree → Type 0
  Inside (name version ty) = ⊤
  Inside (constant word) = ⊥
  Inside (node code ty args) = HasFull table args

  abbrev pub HeldInside : Tree → Type 0
  HeldInside t = Inside t × IsWellTyped t × (operations t < depth)

  same_entries : (a b : Tree) → HeldInside a → HeldInside b → same_atom depth a b ≡ same_entry (entry table a) (entry table b)
  same_entries a b h i = by depth a b h.0 i.0 h.1 i.1 h.2 i.2
    where
      by : (d : ℕ) (a b : Tree) → Inside a → Inside b → IsWellTyped a → IsWellTyped b → operations a < d → operations b < d → same_atom d a b ≡ same_entry (entry table a) (entry table b)
      by zero a b h i w x o p = absurd (omega (arith, o))
      by (suc d) (constant word) b h i w x o p = absurd h
      by (suc d) (name v s) (constant word) h i w x o p = absurd i
      by (suc d) (name v s) (name y t) h i w x o p = refl
      by (suc d) (name v s) (node c t ys) h i w x o p = refl
      by (suc d) (node c s xs) (constant word) h i w x o p = absurd i
      by (suc d) (node c s xs) (name y t) h i w x o p = refl
      by (suc d) (node c s xs) (node e t ys) h i w x o p =
          ap (λ z. bytes_eq (code_name c) (code_name e) && same_type s t && z) (operands_are table d (atoms_agree table d) xs ys h i w.2 x.2 (omega (arith, o)) (omega (arith, p)))

  abbrev pub AllHeld : List Tree → Type 0
  AllHeld nodes = AllByRecursion HeldInside nodes

  found_same : (a : Tree) (nodes : List Tree) → HeldInside a → AllHeld nodes → list_any (λ b. same_atom depth b a) nodes ≡ found (entry table) (entry table a) nodes
  found_same a [] h g = refl
  found_same a (b ∷ bs) h g = λ i. same_entries b a g.0 h i || found_same a bs h g.1 i

  pub place_is : (a : Tree) (nodes : List Tree) → HeldInside a → AllHeld nodes → place_in (same_atom depth) nodes a ≡ atom_number (map (entry table) nodes) (entry table a)
  place_is a [] h g = refl
  place_is a (b ∷ bs) h g = λ i. cond (same_entries b a g.0 h i) 0 (suc (place_is a bs h g.1 i))

  -- what was met is told by its nodes
  pub record Told (r : Reading) : Type 0 where
    pub entries : r.atoms ≡ map (entry table) r.nodes
    pub held : AllHeld r.nodes

  -- a reading that meets an atom
  meets : (r : Reading) (a : Tree) (x : Atom) (inner : List Atom) → Told r → HeldInside a → entry table a ≡ x
      → Told (record { inner = inner; atoms = with_new_atom r.atoms x; nodes = with_node (atom_number r.atoms x) a r.nodes })
      × (with_node (atom_number r.atoms x) a r.nodes ≡ with_met (same_atom depth) r.nodes (a ∷ []))
  meets r a x inner told h e =
      let there = found (entry table) x r.nodes in
      let nodes : with_node (atom_number r.atoms x) a r.nodes ≡ cond (found (entry table) x r.nodes) r.nodes (r.nodes ++ a ∷ [])
      = ap (λ atoms. with_node (atom_number atoms x) a r.nodes) told.entries ∙ new_node (entry table) x a r.nodes in
      let entries : with_new_atom r.atoms x ≡ map (entry table) (cond (found (entry table) x r.nodes) r.nodes (r.nodes ++ a ∷ []))
      = ap (λ atoms. with_new_atom atoms x) told.entries ∙ new_entry (entry table) x a r.nodes e in (
        record { entries = entries ∙ ap (map (entry table)) (sym nodes); held = subst AllHeld (sym nodes) (kept (found (entry table) x r.nodes)) },
        nodes ∙ ap (λ t. cond t r.nodes (r.nodes ++ a ∷ [])) (sym (found_same a r.nodes h told.held ∙ ap (λ y. found (entry table) y r.nodes) e)),
      )
    where
      kept : (t : Bool) → AllHeld (cond t r.nodes (r.nodes ++ a ∷ []))
      kept true = told.held
      kept false = all_append HeldInside r.nodes (a ∷ []) told.held (h, tt)

  abbrev Reads : Tree → Reading → Type 0
  Reads t r = Told (afterwards t r) × ((afterwards t r).nodes ≡ with_met (same_atom depth) r.nodes (atoms_in t))

  abbrev AllReads : Trees → Reading → Type 0
  AllReads ts r = Told (all_afterwards ts r) × ((all_afterwards ts r).nodes ≡ with_met (same_atom depth) r.nodes (atoms_of ts))

  mutual
    pub told_afterwards : (t : Tree) (r : Reading) → Extends (afterwards t r).inner table → IsWellTyped t → operations t < depth → Told r → Reads t r
    told_afterwards (name version ty) r x w o told = meets r (name version ty) (Name version ty) r.inner told (tt, w, o) refl
    told_afterwards (constant word) r x w o told = (told, refl)
    told_afterwards (node code ty args) r x w o told = by (goes_exactly code) refl x (λ y. all_told_afterwards args r y w.2 (omega arith) told)
      where
        by : (b : Bool) → goes_exactly code ≡ b → Extends (cond b (all_afterwards args r) (with_atom_met code ty args r)).inner table → (Extends (all_afterwards args r).inner table → AllReads args r)
            → Told (cond b (all_afterwards args r) (with_atom_met code ty args r))
            × ((cond b (all_afterwards args r) (with_atom_met code ty args r)).nodes ≡ with_met (same_atom depth) r.nodes (cond b (atoms_of args) (node code ty args ∷ [])))
        by true e y f = f y
        by false e y f =
            meets r (node code ty args) (Operation code ty (operands_over (after_full args r.inner) args)) (after_full args r.inner) told
            (kept_has_full (after_full args r.inner) table y args (has_full_after args r.inner), w, o)
            (ap (Operation code ty) (kept_operands (after_full args r.inner) table y args (has_full_after args r.inner)))

    pub all_told_afterwards : (ts : Trees) (r : Reading) → Extends (all_afterwards ts r).inner table → AreWellTyped ts → operations_of ts < depth → Told r → AllReads ts r
    all_told_afterwards nil r x w o told = (told, refl)
    all_told_afterwards (cons t ts) r x w o told =
        let more = all_further ts (afterwards t r) in
        let first = told_afterwards t r (further (afterwards t r).inner (all_afterwards ts (afterwards t r)).inner table more.inner x) w.0 (omega arith) told in
        let rest = all_told_afterwards ts (afterwards t r) x w.1 (omega arith) first.0 in (
          rest.0,
          rest.1 ∙ ap (λ nodes. with_met (same_atom depth) nodes (atoms_of ts)) first.1 ∙ sym (with_met_append (same_atom depth) r.nodes (atoms_in t) (atoms_of ts)),
        )
