-- Atoms are the same exactly where they have one number in a table that has them; so what is read
-- over tables is what the definition of ring forms says.
use Rattle.std.proofs.Common.{◌≡◌, ℕ, zero, suc, ◌+◌, ◌<◌, ◌==◌, Bool, true, false, cond, ◌&&◌, Option, Some, None, List, [], ◌∷◌, length, refl, sym, ap, subst, ◌∙◌, arith, eq-eqb, eqb-true}
use Rattle.std.specs.Prelude.{IsTrue, bytes_eq, unwrap_or, pos, ◌^◌}
use Rattle.std.specs.Cmp.{both_ways}
use Rattle.std.specs.Cmp.Lexicographic.{pointwise}
use Rattle.pm_ops.specs.declared.code.Code.{Code}
use Rattle.pm_ops.specs.declared.code.Code.TheVariants.{Minus, Mult, Negate, BitNot, Lshift}
use Rattle.pm_ops.specs.Names.{code_name}
use Rattle.pm_wide.specs.Types.{Ty, same_type}
use Rattle.pm_wide.proofs.Results.{same_type_is}
use Rattle.pm_wide.proofs.Values.{width_positive}
use Rattle.pm_term.specs.Trees.{Tree, name, constant, node, Trees, nil, cons, type_of, operations, operations_of, IsWellTyped, AreWellTyped}
use Rattle.ring_forms.specs.declared.atom.Atom.{Atom}
use Rattle.ring_forms.specs.declared.atom.Atom.TheVariants.{Name, Operation}
use Rattle.ring_forms.specs.declared.form.Part.{Part}
use Rattle.ring_forms.specs.Atoms.{same_parts, same_entry_operand, same_entry, atom_number}
use Rattle.ring_forms.specs.Forms.{within_limits}
use Rattle.ring_forms.specs.RingForms.{goes_by_parts, constant_places, unary_sum, binary_sum, atom, expanded, same_form, is_within, has_form, have_forms, have_full_forms, same_operands, same_atom, same_within, AreRingEqual}
use Rattle.ring_forms.specs.Sums.{Sum, negated}
use Rattle.ring_forms.specs.TableForms.{ring_form, HaveOneForm, AreEqualOverTable}
use Rattle.ring_forms.proofs.Agreement.{Factors, negated_factors, scaled_factors, append_factors, product_factors, form_agree, within_agree}
use Rattle.ring_forms.proofs.AtomLemmas.{atom_decides, form_decides}
use Rattle.ring_forms.proofs.FixedTables.{form_over, operands_over, number, stands_for, clean_over}
use Rattle.ring_forms.proofs.FormLimits.{same_numbered, one_form_decides, within_is}
use Rattle.ring_forms.proofs.Readings.{IsIn, Extends, Has, HasAll, HasFull, limited_over, all_limited, full_limited, kept_form, kept_has, kept_limited, after, after_extends, has_after, ring_form_is}

no_way : {A : Type 0} → false ≡ true → A
no_way h = cc

-- ---- factors of operations on sums

module _ (P : Tree → Type 0) where
  pub unary_factors : (code : Code) (f : Sum Tree) → Factors P f → Factors P (unary_sum code f)
  unary_factors Negate f h = negated_factors P f h
  unary_factors BitNot f h = (tt, negated_factors P f h)
  unary_factors _ f h = h

  pub binary_factors : (code : Code) (places : ℕ) (f g : Sum Tree) → Factors P f → Factors P g → Factors P (binary_sum code places f g)
  binary_factors Minus places f g h i = append_factors P f (negated g) h (negated_factors P g i)
  binary_factors Mult places f g h i = product_factors P f g h i
  binary_factors Lshift places f g h i = scaled_factors P (pos (2 ^ places)) f h
  binary_factors _ places f g h i = append_factors P f g h i

-- ---- one number, one entry

pub one_entry : (table : List Atom) (a b : Atom) → IsIn table a → atom_number table a ≡ atom_number table b → a ≡ b
one_entry [] a b h e = absurd (omega arith)
one_entry (c ∷ cs) a b h e = by (same_entry c a) (same_entry c b) refl refl h e (one_entry cs a b)
  where
    by : (s t : Bool) → same_entry c a ≡ s → same_entry c b ≡ t → cond s 0 (suc (atom_number cs a)) < suc (length cs) → cond s 0 (suc (atom_number cs a)) ≡ cond t 0 (suc (atom_number cs b))
        → (IsIn cs a → atom_number cs a ≡ atom_number cs b → a ≡ b) → a ≡ b
    by true true p q i f later = sym ((atom_decides c a).0 p) ∙ (atom_decides c b).0 q
    by true false p q i f later = absurd (omega (arith, f))
    by false true p q i f later = absurd (omega (arith, f))
    by false false p q i f later = later (omega arith) (omega (arith, f))

module _ (table : List Atom) where
  pub entries_decide : (a b : Atom) → IsIn table a → same_entry a b ≡ (atom_number table a == atom_number table b)
  entries_decide a b h =
      both_ways (same_entry a b) (atom_number table a == atom_number table b)
      (λ e. eq-eqb (atom_number table a) (atom_number table b) (ap (atom_number table) ((atom_decides a b).0 e)))
      (λ e. (atom_decides a b).1 (one_entry table a b h (eqb-true (atom_number table a) (atom_number table b) e)))

  -- ---- the atoms of a term

  -- an atom that the table has, with what stands in it
  abbrev pub IsHeld : Tree → Type 0
  IsHeld (name version ty) = IsIn table (Name version ty)
  IsHeld (constant word) = ⊥
  IsHeld (node code ty args) = IsIn table (Operation code ty (operands_over table args)) × HasFull table args

  -- the same of a well-typed one with fewer operations
  abbrev pub Held : ℕ → Tree → Type 0
  Held depth t = IsHeld t × IsWellTyped t × (operations t < depth)

  module _ (depth m : ℕ) where
    alone : (t : Tree) → Held depth t → Factors (Held depth) (atom t)
    alone t h = ((h, tt), tt)

    chosen : (b : Bool) (f g : Sum Tree) → (b ≡ true → Factors (Held depth) f) → (b ≡ false → Factors (Held depth) g) → Factors (Held depth) (cond b f g)
    chosen true f g h i = h refl
    chosen false f g h i = i refl

    own : (code : Code) (ty : Ty) (args : Trees) → Has table m (node code ty args) → IsWellTyped (node code ty args) → operations (node code ty args) < depth → goes_by_parts m code ty args ≡ false
        → Factors (Held depth) (atom (node code ty args))
    own code ty args h w o e = alone (node code ty args) (h.1 e, w, o)

    pub factors : (t : Tree) → Has table m t → IsWellTyped t → operations t < depth → Factors (Held depth) (expanded m t)
    factors (name version ty) h w o = alone (name version ty) (h, w, o)
    factors (constant word) h w o = (tt, tt)
    factors (node code ty nil) h w o = chosen (goes_by_parts m code ty nil) _ _ (λ e. tt) (own code ty nil h w o)
    factors (node code ty (cons t nil)) h w o =
        chosen (goes_by_parts m code ty (cons t nil)) _ _ (λ e. unary_factors (Held depth) code (expanded m t) (factors t (h.0 e).0 w.2.0 (omega arith))) (own code ty (cons t nil) h w o)
    factors (node code ty (cons t (cons u nil))) h w o =
        chosen (goes_by_parts m code ty (cons t (cons u nil))) _ _
        (λ e. binary_factors (Held depth) code (unwrap_or (constant_places ty (cons t (cons u nil))) 0) (expanded m t) (expanded m u) (factors t (h.0 e).0 w.2.0 (omega arith)) (factors u (h.0 e).1.0 w.2.1.0 (omega arith)))
        (own code ty (cons t (cons u nil)) h w o)
    factors (node code ty (cons t (cons u (cons r rs)))) h w o = chosen (goes_by_parts m code ty (cons t (cons u (cons r rs)))) _ _ (λ e. tt) (own code ty (cons t (cons u (cons r rs))) h w o)

  -- ---- the same atoms

  abbrev pub Agrees : ℕ → Type 0
  Agrees depth = (a b : Tree) → Held depth a → Held depth b → same_atom depth a b ≡ (number table a == number table b)

  -- one form by the definition exactly where one form over the table
  one_form_is : (depth : ℕ) → Agrees depth → (m : ℕ) → 0 < m → (t u : Tree) → Has table m t → Has table m u → IsWellTyped t → IsWellTyped u → operations t < depth → operations u < depth
      → same_form (same_atom depth) m (expanded m t) (expanded m u) ≡ same_parts (form_over table m t) (form_over table m u)
  one_form_is depth agree m some t u h i w x o p =
      form_agree (Held depth) (same_atom depth) (same_numbered (number table)) agree m (expanded m t) (expanded m u) (factors depth m t h w o) (factors depth m u i x p)
      ∙ one_form_decides (number table) m (form_over table m t) (form_over table m u) (expanded m t) (expanded m u) (clean_over table m some t) (clean_over table m some u) (stands_for table m t) (stands_for table m u)

  pub well_typed_width : (t : Tree) → IsWellTyped t → 0 < (type_of t).width
  well_typed_width (name version ty) w = width_positive ty w
  well_typed_width (constant word) w = width_positive word.ty w.0
  well_typed_width (node code ty args) w = width_positive ty w.0

  operand_is : (depth : ℕ) → Agrees depth → (t u : Tree) → Has table (type_of t).width t → Has table (type_of u).width u → IsWellTyped t → IsWellTyped u → operations t < depth → operations u < depth
      → (same_type (type_of t) (type_of u) && same_form (same_atom depth) (type_of t).width (expanded (type_of t).width t) (expanded (type_of u).width u))
      ≡ (same_type (type_of t) (type_of u) && same_parts (form_over table (type_of t).width t) (form_over table (type_of u).width u))
  operand_is depth agree t u h i w x o p = by (same_type (type_of t) (type_of u)) refl
    where
      at : (v : Ty) → type_of t ≡ v → Has table v.width u
          → same_form (same_atom depth) (type_of t).width (expanded (type_of t).width t) (expanded v.width u) ≡ same_parts (form_over table (type_of t).width t) (form_over table v.width u)
      at v e =
          subst (λ (z : Ty). Has table z.width u → same_form (same_atom depth) (type_of t).width (expanded (type_of t).width t) (expanded z.width u) ≡ same_parts (form_over table (type_of t).width t) (form_over table z.width u)) e
          (λ k. one_form_is depth agree (type_of t).width (well_typed_width t w) t u h k w x o p)

      by : (b : Bool) → same_type (type_of t) (type_of u) ≡ b
          → (b && same_form (same_atom depth) (type_of t).width (expanded (type_of t).width t) (expanded (type_of u).width u)) ≡ (b && same_parts (form_over table (type_of t).width t) (form_over table (type_of u).width u))
      by true e = at (type_of u) (same_type_is (type_of t) (type_of u) e) i
      by false e = refl

  pub operands_are : (depth : ℕ) → Agrees depth → (ts us : Trees) → HasFull table ts → HasFull table us → AreWellTyped ts → AreWellTyped us → operations_of ts < depth → operations_of us < depth
      → same_operands (same_atom depth) ts us ≡ pointwise same_entry_operand (operands_over table ts) (operands_over table us)
  operands_are depth agree nil nil h i w x o p = refl
  operands_are depth agree nil (cons u us) h i w x o p = refl
  operands_are depth agree (cons t ts) nil h i w x o p = refl
  operands_are depth agree (cons t ts) (cons u us) h i w x o p =
      λ k. operand_is depth agree t u h.0 i.0 w.0 x.0 (omega arith) (omega arith) k && operands_are depth agree ts us h.1 i.1 w.1 x.1 (omega arith) (omega arith) k

  pub atoms_agree : (depth : ℕ) → Agrees depth
  atoms_agree zero a b h i = absurd (let o = h.2 in omega (arith, o))
  atoms_agree (suc depth) (constant word) b h i = absurd h.0
  atoms_agree (suc depth) (name v s) (constant word) h i = absurd i.0
  atoms_agree (suc depth) (name v s) (name w t) h i = entries_decide (Name v s) (Name w t) h.0
  atoms_agree (suc depth) (name v s) (node d t ys) h i = entries_decide (Name v s) (Operation d t (operands_over table ys)) h.0
  atoms_agree (suc depth) (node c s xs) (constant word) h i = absurd i.0
  atoms_agree (suc depth) (node c s xs) (name w t) h i = entries_decide (Operation c s (operands_over table xs)) (Name w t) h.0.0
  atoms_agree (suc depth) (node c s xs) (node d t ys) h i =
      ap (λ x. bytes_eq (code_name c) (code_name d) && same_type s t && x)
      (operands_are depth (atoms_agree depth) xs ys h.0.1 i.0.1 h.1.2 i.1.2 (let o = h.2 in omega (arith, o)) (let o = i.2 in omega (arith, o)))
      ∙ entries_decide (Operation c s (operands_over table xs)) (Operation d t (operands_over table ys)) h.0.0

  -- ---- limits

  mutual
    has_form_is : (depth m : ℕ) → 0 < m → (t : Tree) → Has table m t → IsWellTyped t → operations t < depth → has_form (same_atom depth) m t ≡ limited_over table m t
    has_form_is depth m some (name version ty) h w o = refl
    has_form_is depth m some (constant word) h w o = refl
    has_form_is depth m some (node code ty args) h w o =
        (λ i. within i && cond (goes_by_parts m code ty args) (have_forms (same_atom depth) m args) (have_full_forms (same_atom depth) args))
        ∙ ap (λ x. within_limits (form_over table m (node code ty args)) && x)
        (by (goes_by_parts m code ty args) refl (λ e. have_forms_are depth m some args (h.0 e) w.2 (omega arith)) (λ e. full_forms_are depth args (h.1 e).1 w.2 (omega arith)))
      where
        within : is_within (same_atom depth) m (expanded m (node code ty args)) ≡ within_limits (form_over table m (node code ty args))
        within =
            within_agree (Held depth) (same_atom depth) (same_numbered (number table)) (atoms_agree depth) m (expanded m (node code ty args)) (factors depth m (node code ty args) h w o)
            ∙ within_is (number table) m (form_over table m (node code ty args)) (expanded m (node code ty args)) (clean_over table m some (node code ty args)) (stands_for table m (node code ty args))

        by : (b : Bool) → goes_by_parts m code ty args ≡ b → (goes_by_parts m code ty args ≡ true → have_forms (same_atom depth) m args ≡ all_limited table m args)
            → (goes_by_parts m code ty args ≡ false → have_full_forms (same_atom depth) args ≡ full_limited table args)
            → cond b (have_forms (same_atom depth) m args) (have_full_forms (same_atom depth) args) ≡ cond b (all_limited table m args) (full_limited table args)
        by true e f g = f e
        by false e f g = g e

    pub have_forms_are : (depth m : ℕ) → 0 < m → (ts : Trees) → HasAll table m ts → AreWellTyped ts → operations_of ts < depth → have_forms (same_atom depth) m ts ≡ all_limited table m ts
    have_forms_are depth m some nil h w o = refl
    have_forms_are depth m some (cons t ts) h w o = λ i. has_form_is depth m some t h.0 w.0 (omega arith) i && have_forms_are depth m some ts h.1 w.1 (omega arith) i

    pub full_forms_are : (depth : ℕ) → (ts : Trees) → HasFull table ts → AreWellTyped ts → operations_of ts < depth → have_full_forms (same_atom depth) ts ≡ full_limited table ts
    full_forms_are depth nil h w o = refl
    full_forms_are depth (cons t ts) h w o = λ i. has_form_is depth (type_of t).width (well_typed_width t w.0) t h.0 w.0 (omega arith) i && full_forms_are depth ts h.1 w.1 (omega arith) i

-- ---- two terms

module _ (left right : Tree) (wl : IsWellTyped left) (wr : IsWellTyped right) (e : type_of left ≡ type_of right) where
  abbrev m : ℕ
  m = (type_of left).width

  abbrev first : List Atom
  first = after m left []

  abbrev both : List Atom
  both = after (type_of right).width right first

  abbrev depth : ℕ
  depth = suc (operations left + operations right)

  some : 0 < m
  some = well_typed_width [] left wl

  more : Extends first both
  more = after_extends (type_of right).width right first

  has_left : Has both m left
  has_left = kept_has first both more m left (has_after m left [])

  has_right : Has both (type_of right).width right
  has_right = has_after (type_of right).width right first

  left_limited : has_form (same_within left right) m left ≡ limited_over first m left
  left_limited = has_form_is both depth m some left has_left wl (omega arith) ∙ kept_limited first both more m left (has_after m left [])

  right_limited : has_form (same_within left right) (type_of right).width right ≡ limited_over both (type_of right).width right
  right_limited = has_form_is both depth (type_of right).width (well_typed_width [] right wr) right has_right wr (omega arith)

  one_form : same_form (same_within left right) m (expanded m left) (expanded (type_of right).width right) ≡ same_parts (form_over first m left) (form_over both (type_of right).width right)
  one_form =
      at (type_of right) e has_right
      ∙ (λ i. same_parts (kept_form first both more m left (has_after m left []) i) (form_over both (type_of right).width right))
    where
      at : (v : Ty) → type_of left ≡ v → Has both v.width right → same_form (same_within left right) m (expanded m left) (expanded v.width right) ≡ same_parts (form_over both m left) (form_over both v.width right)
      at v f =
          subst (λ (z : Ty). Has both z.width right → same_form (same_within left right) m (expanded m left) (expanded z.width right) ≡ same_parts (form_over both m left) (form_over both z.width right)) f
          (λ k. one_form_is both depth (atoms_agree both depth) m some left right has_left k wl wr (omega arith) (omega arith))

  -- what is read over tables, by the limits and the forms
  abbrev AreRead : Bool → List Part → Bool → List Part → Type 0
  AreRead a f b g = HaveOneForm (cond a (Some (f, first)) None) (λ table. cond b (Some (g, both)) None)

  abbrev form_or : List Part → Option (List Part × List Atom) → List Part
  form_or f None = f
  form_or f (Some r) = r.0

  parts_of : (a b : Bool) (f g : List Part) → AreRead a f b g → IsTrue a × IsTrue b × IsTrue (same_parts f g)
  parts_of false b f g h = absurd h
  parts_of true false f g h = let is = h.1 in cc
  parts_of true true f g h = (refl, refl, (form_decides f g).1 (sym (ap (form_or f) h.1)))

  of_parts : (a b : Bool) (f g : List Part) → IsTrue a × IsTrue b × IsTrue (same_parts f g) → AreRead a f b g
  of_parts false b f g h = no_way h.0
  of_parts true false f g h = no_way h.1
  of_parts true true f g h = let is = (form_decides f g).0 h.2 in (both, (λ i. Some (sym is i, both)))

  abbrev Over : Type 0
  Over = HaveOneForm (ring_form m left []) (ring_form (type_of right).width right)

  reads : Over ≡ AreRead (limited_over first m left) (form_over first m left) (limited_over both (type_of right).width right) (form_over both (type_of right).width right)
  reads = (λ i. HaveOneForm (ring_form_is m left [] i) (ring_form (type_of right).width right)) ∙ by (limited_over first m left)
    where
      by : (a : Bool) → HaveOneForm (cond a (Some (form_over first m left, first)) None) (ring_form (type_of right).width right)
          ≡ AreRead a (form_over first m left) (limited_over both (type_of right).width right) (form_over both (type_of right).width right)
      by false = refl
      by true = λ i. (table : List Atom) × (ring_form_is (type_of right).width right first i ≡ Some (form_over first m left, table))

pub equal_over_table : (left right : Tree) → IsWellTyped left → IsWellTyped right → AreRingEqual left right → AreEqualOverTable left right
equal_over_table left right wl wr h = (
  h.0,
  subst (λ (A : Type 0). A) (sym (reads left right wl wr h.0))
      (of_parts left right wl wr h.0 _ _ _ _ (
        sym (left_limited left right wl wr h.0) ∙ h.1,
        sym (right_limited left right wl wr h.0) ∙ h.2,
        sym (one_form left right wl wr h.0) ∙ h.3,
      )),
)

pub equal_by_forms : (left right : Tree) → IsWellTyped left → IsWellTyped right → AreEqualOverTable left right → AreRingEqual left right
equal_by_forms left right wl wr h =
    let parts = parts_of left right wl wr h.0 _ _ _ _ (subst (λ (A : Type 0). A) (reads left right wl wr h.0) h.1) in (
      h.0,
      left_limited left right wl wr h.0 ∙ parts.0,
      right_limited left right wl wr h.0 ∙ parts.1,
      one_form left right wl wr h.0 ∙ parts.2,
    )
