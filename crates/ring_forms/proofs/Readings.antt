-- The table that the reading of a term leaves; the form that is read is the form over that table.
use Rattle.std.proofs.Common.{◌≡◌, ℕ, suc, ◌<◌, ◌≤◌, Bool, true, false, cond, ◌&&◌, Option, Some, None, List, [], ◌∷◌, length, refl, sym, ap, subst, ◌∙◌, arith}
use Rattle.std.specs.Prelude.{⊤, unwrap_or}
use Rattle.pm_ops.specs.declared.code.Code.{Code}
use Rattle.pm_wide.specs.Types.{Ty}
use Rattle.pm_term.specs.Trees.{Tree, name, constant, node, Trees, nil, cons, type_of}
use Rattle.ring_forms.specs.declared.atom.Atom.{Atom}
use Rattle.ring_forms.specs.declared.atom.Atom.TheVariants.{Name, Operation}
use Rattle.ring_forms.specs.declared.atom.AtomOperand.{AtomOperand}
use Rattle.ring_forms.specs.declared.form.Part.{Part}
use Rattle.ring_forms.specs.Atoms.{same_entry, atom_number, with_new_atom}
use Rattle.ring_forms.specs.Forms.{atom_form, within_limits}
use Rattle.ring_forms.specs.RingForms.{goes_by_parts, constant_places}
use Rattle.ring_forms.specs.TableForms.{combined_form, combined, atomic, put_first, and_forms, and_operands, ring_form, ring_forms, operand_forms}
use Rattle.ring_forms.proofs.AtomLemmas.{number_here}
use Rattle.ring_forms.proofs.FixedTables.{form_over, forms_over, operands_over}
use Rattle.ring_forms.proofs.Tables.{number_below, new_longer}

apart : {A : Type 0} {b : Bool} → b ≡ true → b ≡ false → A
apart e f = cc

-- ---- entries keep their numbers

abbrev pub IsIn : List Atom → Atom → Type 0
IsIn table a = atom_number table a < length table

pub record Extends (old new : List Atom) : Type 0 where
  pub keeps : (a : Atom) → IsIn old a → atom_number new a ≡ atom_number old a
  pub longer : length old ≤ length new

pub still_in : (old new : List Atom) (a : Atom) → Extends old new → IsIn old a → IsIn new a
still_in old new a x h = let e = x.keeps a h in let l = x.longer in omega (arith, e, l, h)

pub itself : (table : List Atom) → Extends table table
itself table = record { keeps = λ a h. refl; longer = omega arith }

pub further : (a b c : List Atom) → Extends a b → Extends b c → Extends a c
further a b c x y = record {
  keeps = λ e h. y.keeps e (still_in a b e x h) ∙ x.keeps e h;
  longer = let l = x.longer in let k = y.longer in omega (arith, l, k);
}

number_kept : (table : List Atom) (a b : Atom) → IsIn table b → atom_number (with_new_atom table a) b ≡ atom_number table b
number_kept [] a b h = absurd (omega arith)
number_kept (c ∷ cs) a b h = by (same_entry c a) (same_entry c b) h (number_kept cs a b)
  where
    by : (s t : Bool) → cond t 0 (suc (atom_number cs b)) < suc (length cs) → (IsIn cs b → atom_number (with_new_atom cs a) b ≡ atom_number cs b)
        → atom_number (cond s (c ∷ cs) (c ∷ with_new_atom cs a)) b ≡ cond (same_entry c b) 0 (suc (atom_number cs b))
    by true t g later = refl
    by false t g later = inner (same_entry c b) h
      where
        inner : (u : Bool) → cond u 0 (suc (atom_number cs b)) < suc (length cs) → cond u 0 (suc (atom_number (with_new_atom cs a) b)) ≡ cond u 0 (suc (atom_number cs b))
        inner true i = refl
        inner false i = ap suc (later (omega arith))

pub new_number : (table : List Atom) (a : Atom) → atom_number (with_new_atom table a) a ≡ atom_number table a
new_number [] a = number_here a a [] refl
new_number (b ∷ bs) a = by (same_entry b a) refl (new_number bs a)
  where
    by : (t : Bool) → same_entry b a ≡ t → atom_number (with_new_atom bs a) a ≡ atom_number bs a → atom_number (cond t (b ∷ bs) (b ∷ with_new_atom bs a)) a ≡ cond (same_entry b a) 0 (suc (atom_number bs a))
    by true e later = refl
    by false e later = ap (λ n. cond (same_entry b a) 0 (suc n)) later

pub new_in : (table : List Atom) (a : Atom) → IsIn (with_new_atom table a) a
new_in table a = let e = new_number table a in let l = number_below table a in omega (arith, e, l)

pub extends_new : (table : List Atom) (a : Atom) → Extends table (with_new_atom table a)
extends_new table a = record { keeps = λ b h. number_kept table a b h; longer = new_longer table a }

-- ---- a table that has all atoms of a term

abbrev mutual
  pub Has : List Atom → ℕ → Tree → Type 0
  Has table m (name version ty) = IsIn table (Name version ty)
  Has table m (constant word) = ⊤
  Has table m (node code ty args) =
      (goes_by_parts m code ty args ≡ true → HasAll table m args) × (goes_by_parts m code ty args ≡ false → IsIn table (Operation code ty (operands_over table args)) × HasFull table args)

  pub HasAll : List Atom → ℕ → Trees → Type 0
  HasAll table m nil = ⊤
  HasAll table m (cons t ts) = Has table m t × HasAll table m ts

  pub HasFull : List Atom → Trees → Type 0
  HasFull table nil = ⊤
  HasFull table (cons t ts) = Has table (type_of t).width t × HasFull table ts

-- ---- limits at every part

abbrev mutual
  pub limited_over : List Atom → ℕ → Tree → Bool
  limited_over table m (name version ty) = true
  limited_over table m (constant word) = true
  limited_over table m (node code ty args) =
      within_limits (form_over table m (node code ty args)) && cond (goes_by_parts m code ty args) (all_limited table m args) (full_limited table args)

  pub all_limited : List Atom → ℕ → Trees → Bool
  all_limited table m nil = true
  all_limited table m (cons t ts) = limited_over table m t && all_limited table m ts

  pub full_limited : List Atom → Trees → Bool
  full_limited table nil = true
  full_limited table (cons t ts) = limited_over table (type_of t).width t && full_limited table ts

-- ---- a longer table changes nothing

module _ (old new : List Atom) (more : Extends old new) where
  mutual
    pub kept_form : (m : ℕ) (t : Tree) → Has old m t → form_over new m t ≡ form_over old m t
    kept_form m (name version ty) h = ap atom_form (more.keeps (Name version ty) h)
    kept_form m (constant word) h = refl
    kept_form m (node code ty args) h = by (goes_by_parts m code ty args) refl (λ e. kept_forms m args (h.0 e)) (λ e. kept_operands args (h.1 e).1)
      where
        by : (b : Bool) → goes_by_parts m code ty args ≡ b → (goes_by_parts m code ty args ≡ true → forms_over new m args ≡ forms_over old m args)
            → (goes_by_parts m code ty args ≡ false → operands_over new args ≡ operands_over old args)
            → cond b (combined_form m code (unwrap_or (constant_places ty args) 0) (forms_over new m args)) (atom_form (atom_number new (Operation code ty (operands_over new args))))
            ≡ cond b (combined_form m code (unwrap_or (constant_places ty args) 0) (forms_over old m args)) (atom_form (atom_number old (Operation code ty (operands_over old args))))
        by true e f g = ap (combined_form m code (unwrap_or (constant_places ty args) 0)) (f e)
        by false e f g = ap (λ os. atom_form (atom_number new (Operation code ty os))) (g e) ∙ ap atom_form (more.keeps (Operation code ty (operands_over old args)) (h.1 e).0)

    pub kept_forms : (m : ℕ) (ts : Trees) → HasAll old m ts → forms_over new m ts ≡ forms_over old m ts
    kept_forms m nil h = refl
    kept_forms m (cons t ts) h = λ i. kept_form m t h.0 i ∷ kept_forms m ts h.1 i

    pub kept_operands : (ts : Trees) → HasFull old ts → operands_over new ts ≡ operands_over old ts
    kept_operands nil h = refl
    kept_operands (cons t ts) h = λ i. record { ty = type_of t; form = kept_form (type_of t).width t h.0 i } ∷ kept_operands ts h.1 i

  mutual
    pub kept_has : (m : ℕ) (t : Tree) → Has old m t → Has new m t
    kept_has m (name version ty) h = still_in old new (Name version ty) more h
    kept_has m (constant word) h = tt
    kept_has m (node code ty args) h = (
      λ e. kept_has_all m args (h.0 e),
      λ e. (
        subst (λ os. IsIn new (Operation code ty os)) (sym (kept_operands args (h.1 e).1)) (still_in old new (Operation code ty (operands_over old args)) more (h.1 e).0),
        kept_has_full args (h.1 e).1,
      ),
    )

    pub kept_has_all : (m : ℕ) (ts : Trees) → HasAll old m ts → HasAll new m ts
    kept_has_all m nil h = tt
    kept_has_all m (cons t ts) h = (kept_has m t h.0, kept_has_all m ts h.1)

    pub kept_has_full : (ts : Trees) → HasFull old ts → HasFull new ts
    kept_has_full nil h = tt
    kept_has_full (cons t ts) h = (kept_has (type_of t).width t h.0, kept_has_full ts h.1)

  mutual
    pub kept_limited : (m : ℕ) (t : Tree) → Has old m t → limited_over new m t ≡ limited_over old m t
    kept_limited m (name version ty) h = refl
    kept_limited m (constant word) h = refl
    kept_limited m (node code ty args) h =
        (λ i. within_limits (kept_form m (node code ty args) h i) && cond (goes_by_parts m code ty args) (all_limited new m args) (full_limited new args))
        ∙ ap (λ x. within_limits (form_over old m (node code ty args)) && x) (by (goes_by_parts m code ty args) refl (λ e. all_kept_limited m args (h.0 e)) (λ e. full_kept_limited args (h.1 e).1))
      where
        by : (b : Bool) → goes_by_parts m code ty args ≡ b → (goes_by_parts m code ty args ≡ true → all_limited new m args ≡ all_limited old m args)
            → (goes_by_parts m code ty args ≡ false → full_limited new args ≡ full_limited old args)
            → cond b (all_limited new m args) (full_limited new args) ≡ cond b (all_limited old m args) (full_limited old args)
        by true e f g = f e
        by false e f g = g e

    pub all_kept_limited : (m : ℕ) (ts : Trees) → HasAll old m ts → all_limited new m ts ≡ all_limited old m ts
    all_kept_limited m nil h = refl
    all_kept_limited m (cons t ts) h = λ i. kept_limited m t h.0 i && all_kept_limited m ts h.1 i

    pub full_kept_limited : (ts : Trees) → HasFull old ts → full_limited new ts ≡ full_limited old ts
    full_kept_limited nil h = refl
    full_kept_limited (cons t ts) h = λ i. kept_limited (type_of t).width t h.0 i && full_kept_limited ts h.1 i

-- ---- the table that a reading leaves

abbrev pub with_operation : Code → Ty → Trees → List Atom → List Atom
with_operation code ty args table = with_new_atom table (Operation code ty (operands_over table args))

abbrev mutual
  pub after : ℕ → Tree → List Atom → List Atom
  after m (name version ty) table = with_new_atom table (Name version ty)
  after m (constant word) table = table
  after m (node code ty args) table = cond (goes_by_parts m code ty args) (after_all m args table) (with_operation code ty args (after_full args table))

  pub after_all : ℕ → Trees → List Atom → List Atom
  after_all m nil table = table
  after_all m (cons t ts) table = after_all m ts (after m t table)

  pub after_full : Trees → List Atom → List Atom
  after_full nil table = table
  after_full (cons t ts) table = after_full ts (after (type_of t).width t table)

mutual
  pub after_extends : (m : ℕ) (t : Tree) (table : List Atom) → Extends table (after m t table)
  after_extends m (name version ty) table = extends_new table (Name version ty)
  after_extends m (constant word) table = itself table
  after_extends m (node code ty args) table = by (goes_by_parts m code ty args) (all_extends m args table) (full_extends args table)
    where
      by : (b : Bool) → Extends table (after_all m args table) → Extends table (after_full args table) → Extends table (cond b (after_all m args table) (with_operation code ty args (after_full args table)))
      by true x y = x
      by false x y = further table (after_full args table) (with_operation code ty args (after_full args table)) y (extends_new (after_full args table) (Operation code ty (operands_over (after_full args table) args)))

  pub all_extends : (m : ℕ) (ts : Trees) (table : List Atom) → Extends table (after_all m ts table)
  all_extends m nil table = itself table
  all_extends m (cons t ts) table = further table (after m t table) (after_all m ts (after m t table)) (after_extends m t table) (all_extends m ts (after m t table))

  pub full_extends : (ts : Trees) (table : List Atom) → Extends table (after_full ts table)
  full_extends nil table = itself table
  full_extends (cons t ts) table =
      further table (after (type_of t).width t table) (after_full ts (after (type_of t).width t table)) (after_extends (type_of t).width t table) (full_extends ts (after (type_of t).width t table))

mutual
  pub has_after : (m : ℕ) (t : Tree) (table : List Atom) → Has (after m t table) m t
  has_after m (name version ty) table = new_in table (Name version ty)
  has_after m (constant word) table = tt
  has_after m (node code ty args) table = by (goes_by_parts m code ty args) refl (has_all_after m args table) (has_full_after args table)
    where
      by : (b : Bool) → goes_by_parts m code ty args ≡ b → HasAll (after_all m args table) m args → HasFull (after_full args table) args
          → (goes_by_parts m code ty args ≡ true → HasAll (cond b (after_all m args table) (with_operation code ty args (after_full args table))) m args)
          × (goes_by_parts m code ty args ≡ false
          → IsIn (cond b (after_all m args table) (with_operation code ty args (after_full args table))) (Operation code ty (operands_over (cond b (after_all m args table) (with_operation code ty args (after_full args table))) args))
          × HasFull (cond b (after_all m args table) (with_operation code ty args (after_full args table))) args)
      by true e h g = (λ f. h, λ f. apart e f)
      by false e h g = (
        λ f. apart f e,
        λ f. (
          subst (λ os. IsIn (with_operation code ty args (after_full args table)) (Operation code ty os))
              (sym (kept_operands (after_full args table) (with_operation code ty args (after_full args table)) (extends_new (after_full args table) (Operation code ty (operands_over (after_full args table) args))) args g))
              (new_in (after_full args table) (Operation code ty (operands_over (after_full args table) args))),
          kept_has_full (after_full args table) (with_operation code ty args (after_full args table)) (extends_new (after_full args table) (Operation code ty (operands_over (after_full args table) args))) args g,
        ),
      )

  pub has_all_after : (m : ℕ) (ts : Trees) (table : List Atom) → HasAll (after_all m ts table) m ts
  has_all_after m nil table = tt
  has_all_after m (cons t ts) table =
      (kept_has (after m t table) (after_all m ts (after m t table)) (all_extends m ts (after m t table)) m t (has_after m t table), has_all_after m ts (after m t table))

  pub has_full_after : (ts : Trees) (table : List Atom) → HasFull (after_full ts table) ts
  has_full_after nil table = tt
  has_full_after (cons t ts) table = (
    kept_has (after (type_of t).width t table) (after_full ts (after (type_of t).width t table)) (full_extends ts (after (type_of t).width t table)) (type_of t).width t (has_after (type_of t).width t table),
    has_full_after ts (after (type_of t).width t table),
  )

-- ---- what is read

abbrev given : {X : Type 0} → Bool → X → List Atom → Option (X × List Atom)
given b x table = cond b (Some (x, table)) None

combined_is : (m : ℕ) (code : Code) (places : ℕ) (fs : List (List Part)) (table : List Atom) (b : Bool)
    → combined m code places (given b fs table) ≡ given (within_limits (combined_form m code places fs) && b) (combined_form m code places fs) table
combined_is m code places fs table true = by (within_limits (combined_form m code places fs))
  where
    by : (w : Bool) → given w (combined_form m code places fs) table ≡ given (w && true) (combined_form m code places fs) table
    by true = refl
    by false = refl
combined_is m code places fs table false = by (within_limits (combined_form m code places fs))
  where
    by : (w : Bool) → None ≡ given (w && false) (combined_form m code places fs) table
    by true = refl
    by false = refl

and_forms_is : (f : List Part) (fs : List (List Part)) (table later : List Atom) (a b : Bool) (rest : List Atom → Option (List (List Part) × List Atom)) → rest table ≡ given b fs later
    → and_forms (given a f table) rest ≡ given (a && b) (f ∷ fs) later
and_forms_is f fs table later false b rest e = refl
and_forms_is f fs table later true b rest e = ap (put_first f) e ∙ by b
  where
    by : (b : Bool) → put_first f (given b fs later) ≡ given b (f ∷ fs) later
    by true = refl
    by false = refl

and_operands_is : (ty : Ty) (f : List Part) (os : List AtomOperand) (table later : List Atom) (a b : Bool) (rest : List Atom → Option (List AtomOperand × List Atom)) → rest table ≡ given b os later
    → and_operands ty (given a f table) rest ≡ given (a && b) (record { ty = ty; form = f } ∷ os) later
and_operands_is ty f os table later false b rest e = refl
and_operands_is ty f os table later true b rest e = ap (put_first (record { ty = ty; form = f })) e ∙ by b
  where
    by : (b : Bool) → put_first (record { ty = ty; form = f }) (given b os later) ≡ given b (record { ty = ty; form = f } ∷ os) later
    by true = refl
    by false = refl

atomic_is : (code : Code) (ty : Ty) (os : List AtomOperand) (table : List Atom) (b : Bool)
    → atomic code ty (given b os table) ≡ given b (atom_form (atom_number table (Operation code ty os))) (with_new_atom table (Operation code ty os))
atomic_is code ty os table true = refl
atomic_is code ty os table false = refl

mutual
  pub ring_form_is : (m : ℕ) (t : Tree) (table : List Atom) → ring_form m t table ≡ given (limited_over (after m t table) m t) (form_over (after m t table) m t) (after m t table)
  ring_form_is m (name version ty) table = λ i. Some (atom_form (sym (new_number table (Name version ty)) i), with_new_atom table (Name version ty))
  ring_form_is m (constant word) table = refl
  ring_form_is m (node code ty args) table = by (goes_by_parts m code ty args) (ring_forms_are m args table) (operand_forms_are args table) (has_full_after args table)
    where
      by : (b : Bool) → ring_forms m args table ≡ given (all_limited (after_all m args table) m args) (forms_over (after_all m args table) m args) (after_all m args table)
          → operand_forms args table ≡ given (full_limited (after_full args table) args) (operands_over (after_full args table) args) (after_full args table)
          → HasFull (after_full args table) args
          → cond b (combined m code (unwrap_or (constant_places ty args) 0) (ring_forms m args table)) (atomic code ty (operand_forms args table))
          ≡ (let last = cond b (after_all m args table) (with_operation code ty args (after_full args table)) in
          let f = cond b (combined_form m code (unwrap_or (constant_places ty args) 0) (forms_over last m args)) (atom_form (atom_number last (Operation code ty (operands_over last args)))) in
          given (within_limits f && cond b (all_limited last m args) (full_limited last args)) f last)
      by true e g h =
          ap (combined m code (unwrap_or (constant_places ty args) 0)) e
          ∙ combined_is m code (unwrap_or (constant_places ty args) 0) (forms_over (after_all m args table) m args) (after_all m args table) (all_limited (after_all m args table) m args)
      by false e g h =
          let more = extends_new (after_full args table) (Operation code ty (operands_over (after_full args table) args)) in
          let os = kept_operands (after_full args table) (with_operation code ty args (after_full args table)) more args h in
          let lim = full_kept_limited (after_full args table) (with_operation code ty args (after_full args table)) more args h in
          ap (atomic code ty) g ∙ atomic_is code ty (operands_over (after_full args table) args) (after_full args table) (full_limited (after_full args table) args)
          ∙ (λ i. given (sym lim i) (atom_form (sym (new_number (after_full args table) (Operation code ty (operands_over (after_full args table) args))) i)) (with_operation code ty args (after_full args table)))
          ∙ (λ i. given (full_limited (with_operation code ty args (after_full args table)) args) (atom_form (atom_number (with_operation code ty args (after_full args table)) (Operation code ty (sym os i)))) (with_operation code ty args (after_full args table)))

  pub ring_forms_are : (m : ℕ) (ts : Trees) (table : List Atom) → ring_forms m ts table ≡ given (all_limited (after_all m ts table) m ts) (forms_over (after_all m ts table) m ts) (after_all m ts table)
  ring_forms_are m nil table = refl
  ring_forms_are m (cons t ts) table =
      let more = all_extends m ts (after m t table) in
      let has = has_after m t table in
      ap (λ o. and_forms o (ring_forms m ts)) (ring_form_is m t table)
      ∙ and_forms_is (form_over (after m t table) m t) (forms_over (after_all m ts (after m t table)) m ts) (after m t table) (after_all m ts (after m t table)) (limited_over (after m t table) m t)
      (all_limited (after_all m ts (after m t table)) m ts) (ring_forms m ts) (ring_forms_are m ts (after m t table))
      ∙ (λ i. given (sym (kept_limited (after m t table) (after_all m ts (after m t table)) more m t has) i && all_limited (after_all m ts (after m t table)) m ts)
      (sym (kept_form (after m t table) (after_all m ts (after m t table)) more m t has) i ∷ forms_over (after_all m ts (after m t table)) m ts) (after_all m ts (after m t table)))

  pub operand_forms_are : (ts : Trees) (table : List Atom) → operand_forms ts table ≡ given (full_limited (after_full ts table) ts) (operands_over (after_full ts table) ts) (after_full ts table)
  operand_forms_are nil table = refl
  operand_forms_are (cons t ts) table =
      let more = full_extends ts (after (type_of t).width t table) in
      let has = has_after (type_of t).width t table in
      ap (λ o. and_operands (type_of t) o (operand_forms ts)) (ring_form_is (type_of t).width t table)
      ∙ and_operands_is (type_of t) (form_over (after (type_of t).width t table) (type_of t).width t) (operands_over (after_full ts (after (type_of t).width t table)) ts) (after (type_of t).width t table)
      (after_full ts (after (type_of t).width t table)) (limited_over (after (type_of t).width t table) (type_of t).width t) (full_limited (after_full ts (after (type_of t).width t table)) ts) (operand_forms ts)
      (operand_forms_are ts (after (type_of t).width t table))
      ∙ (λ i. given (sym (kept_limited (after (type_of t).width t table) (after_full ts (after (type_of t).width t table)) more (type_of t).width t has) i && full_limited (after_full ts (after (type_of t).width t table)) ts)
      (record { ty = type_of t; form = sym (kept_form (after (type_of t).width t table) (after_full ts (after (type_of t).width t table)) more (type_of t).width t has) i } ∷ operands_over (after_full ts (after (type_of t).width t table)) ts)
      (after_full ts (after (type_of t).width t table)))
