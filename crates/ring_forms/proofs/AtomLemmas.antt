-- Atoms in the table.
use Rattle.std.proofs.Common.{◌≡◌, ℕ, suc, ◌==◌, ◌<◌, Bool, true, false, not, cond, ◌&&◌, List, [], ◌∷◌, ◌++◌, length, refl, sym, ap, ◌∙◌, arith, eq-eqb, drop, drop-cons, get_or, ◌+◌}
use Rattle.std.specs.Prelude.{nat_eq, bytes_eq}
use Rattle.std.specs.Bool.{Decides}
use Rattle.std.specs.Cmp.Lexicographic.{pointwise, pointwise_decides, bytes_decides}
use Rattle.std.proofs.lemmas.Bool.{and_from}
use Rattle.std.proofs.lemmas.Bool.Decides.{Decides-eqb, Decides-and, Decides-like}
use Rattle.pm_ops.specs.declared.code.Code.{Code}
use Rattle.pm_ops.specs.Names.{code_name}
use Rattle.pm_ops.proofs.NameLemmas.{code_names_differ}
use Rattle.pm_wide.specs.Types.{Ty, same_type}
use Rattle.pm_wide.proofs.Results.{same_type_is}
use Rattle.ring_forms.specs.declared.form.Part.{Part}
use Rattle.ring_forms.specs.declared.atom.Atom.{Atom}
use Rattle.ring_forms.specs.declared.atom.Atom.TheVariants.{Name, Operation}
use Rattle.ring_forms.specs.declared.atom.AtomOperand.{AtomOperand}
use Rattle.ring_forms.specs.Atoms.{same_part, same_parts, same_entry_operand, same_entry, atom_number, with_new_atom}

-- ---- the tests decide

part_decides : (p q : Part) → Decides (same_part p q) (p ≡ q)
part_decides p q =
    Decides-like (same_part p q) (λ e. let is : p ≡ q = λ i. record { atoms = e.0 i; coefficient = e.1 i } in is) (λ e. (ap (λ (x : Part). x.atoms) e, ap (λ (x : Part). x.coefficient) e))
    (Decides-and (pointwise nat_eq p.atoms q.atoms) (p.coefficient == q.coefficient) (pointwise_decides Decides-eqb p.atoms q.atoms) (Decides-eqb p.coefficient q.coefficient))

pub form_decides : (f g : List Part) → Decides (same_parts f g) (f ≡ g)
form_decides f g = pointwise_decides part_decides f g

same_sign : (b : Bool) → cond b b (not b) ≡ true
same_sign true = refl
same_sign false = refl

type_decides : (s t : Ty) → Decides (same_type s t) (s ≡ t)
type_decides s t = (same_type_is s t, λ e. ap (same_type s) (sym e) ∙ and_from (s.width == s.width) (cond s.unsigned s.unsigned (not s.unsigned)) (eq-eqb s.width s.width refl) (same_sign s.unsigned))

operand_decides : (a b : AtomOperand) → Decides (same_entry_operand a b) (a ≡ b)
operand_decides a b =
    Decides-like (same_entry_operand a b) (λ e. let is : a ≡ b = λ i. record { ty = e.0 i; form = e.1 i } in is) (λ e. (ap (λ (x : AtomOperand). x.ty) e, ap (λ (x : AtomOperand). x.form) e))
    (Decides-and (same_type a.ty b.ty) (same_parts a.form b.form) (type_decides a.ty b.ty) (form_decides a.form b.form))

code_decides : (c d : Code) → Decides (bytes_eq (code_name c) (code_name d)) (c ≡ d)
code_decides c d =
    let names = bytes_decides (code_name c) (code_name d) in
    (λ h. code_names_differ c d (names.0 h), λ e. names.1 (ap code_name e))

pub atom_decides : (a b : Atom) → Decides (same_entry a b) (a ≡ b)
atom_decides (Name v s) (Name w t) =
    Decides-like (same_entry (Name v s) (Name w t)) (λ e. let is : Name v s ≡ Name w t = λ i. Name (e.0 i) (e.1 i) in is) (λ e. (cc, cc))
    (Decides-and (v == w) (same_type s t) (Decides-eqb v w) (type_decides s t))
atom_decides (Operation c s xs) (Operation d t ys) =
    Decides-like (same_entry (Operation c s xs) (Operation d t ys)) (λ e. let is : Operation c s xs ≡ Operation d t ys = λ i. Operation (e.0.0 i) (e.0.1 i) (e.1 i) in is) (λ e. ((cc, cc), cc))
    (Decides-and (bytes_eq (code_name c) (code_name d) && same_type s t) (pointwise same_entry_operand xs ys)
    (Decides-and (bytes_eq (code_name c) (code_name d)) (same_type s t) (code_decides c d) (type_decides s t)) (pointwise_decides operand_decides xs ys))
atom_decides (Name v s) (Operation d t ys) = (λ h. cc, λ e. cc)
atom_decides (Operation c s xs) (Name w t) = (λ h. cc, λ e. cc)

-- ---- the table

pub new_atom : (table : List Atom) (a : Atom) → atom_number table a ≡ length table → with_new_atom table a ≡ table ++ a ∷ []
new_atom [] a h = refl
new_atom (b ∷ bs) a h = by (same_entry b a) h (new_atom bs a)
  where
    by : (t : Bool) → cond t 0 (suc (atom_number bs a)) ≡ suc (length bs) → (atom_number bs a ≡ length bs → with_new_atom bs a ≡ bs ++ a ∷ []) → cond t (b ∷ bs) (b ∷ with_new_atom bs a) ≡ b ∷ bs ++ a ∷ []
    by true g later = absurd (omega arith)
    by false g later = ap (λ xs. b ∷ xs) (later (omega arith))

pub old_atom : (table : List Atom) (a : Atom) → atom_number table a < length table → with_new_atom table a ≡ table
old_atom [] a h = absurd (omega arith)
old_atom (b ∷ bs) a h = by (same_entry b a) h (old_atom bs a)
  where
    by : (t : Bool) → cond t 0 (suc (atom_number bs a)) < suc (length bs) → (atom_number bs a < length bs → with_new_atom bs a ≡ bs) → cond t (b ∷ bs) (b ∷ with_new_atom bs a) ≡ b ∷ bs
    by true g later = refl
    by false g later = ap (λ xs. b ∷ xs) (later (omega arith))

pub number_here : (b a : Atom) (bs : List Atom) → b ≡ a → atom_number (b ∷ bs) a ≡ 0
number_here b a bs e = ap (λ t. cond t 0 (suc (atom_number bs a))) ((atom_decides b a).1 e)

pub number_later : (b a : Atom) (bs : List Atom) → (b ≡ a → ⊥) → atom_number (b ∷ bs) a ≡ suc (atom_number bs a)
number_later b a bs n = by (same_entry b a) refl
  where
    by : (t : Bool) → same_entry b a ≡ t → cond t 0 (suc (atom_number bs a)) ≡ suc (atom_number bs a)
    by true e = absurd (n ((atom_decides b a).0 e))
    by false e = refl

-- ---- the walk over the table

item_first : (table : List Atom) (x : Atom) (i : ℕ) → i < length table → x ≡ get_or table i x → drop i table ≡ x ∷ drop (suc i) table
item_first table x i h is = drop-cons table i x h ∙ (λ j. sym is j ∷ drop (suc i) table)

pub found_here : (table : List Atom) (a x : Atom) (i n : ℕ) → i < length table → x ≡ get_or table i x → x ≡ a → i + atom_number (drop i table) a ≡ n → i ≡ n
found_here table a x i n h is e before =
    let z : atom_number (drop i table) a ≡ 0 = ap (λ xs. atom_number xs a) (item_first table x i h is) ∙ number_here x a (drop (suc i) table) e in
    omega (arith, z, before)

pub found_later : (table : List Atom) (a x : Atom) (i n : ℕ) → i < length table → x ≡ get_or table i x → (x ≡ a → ⊥) → i + atom_number (drop i table) a ≡ n → i + 1 + atom_number (drop (i + 1) table) a ≡ n
found_later table a x i n h is e before =
    let z : atom_number (drop i table) a ≡ suc (atom_number (drop (suc i) table) a) = ap (λ xs. atom_number xs a) (item_first table x i h is) ∙ number_later x a (drop (suc i) table) e in
    let next : i + 1 ≡ suc i = omega arith in
    rw next (omega (arith, z, before))
