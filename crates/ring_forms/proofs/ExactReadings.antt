-- What is met when an exact form is read; the form that is read goes by what is met in all.
use Rattle.std.proofs.Common.{◌≡◌, Bool, true, false, cond, ◌&&◌, Option, Some, None, List, [], ◌∷◌, refl, sym, ap, subst, ◌∙◌}
use Rattle.std.specs.Prelude.{⊤}
use Rattle.pm_ops.specs.declared.code.Code.{Code}
use Rattle.pm_wide.specs.Types.{Ty, value}
use Rattle.pm_term.specs.Trees.{Tree, name, constant, node, Trees, nil, cons}
use Rattle.ring_forms.specs.declared.atom.Atom.{Atom}
use Rattle.ring_forms.specs.declared.atom.Atom.TheVariants.{Name, Operation}
use Rattle.ring_forms.specs.declared.exact.Reading.{Reading}
use Rattle.ring_forms.specs.declared.form.Part.{Part}
use Rattle.ring_forms.specs.Atoms.{atom_number}
use Rattle.ring_forms.specs.ExactForms.{goes_exactly}
use Rattle.ring_forms.specs.ExactTables.{is_exact, met, exact_combined, exact_atom, exact_first, and_exacts, exact_read, exact_reads}
use Rattle.ring_forms.specs.Forms.{constant_form, atom_form}
use Rattle.ring_forms.specs.TableForms.{combined_form, operand_forms}
use Rattle.ring_forms.proofs.FixedTables.{operands_over}
use Rattle.ring_forms.proofs.Readings.{IsIn, Extends, HasFull, still_in, itself, further, new_number, new_in, extends_new, full_limited, full_kept_limited, kept_operands, kept_has_full, after_full, full_extends, has_full_after, operand_forms_are}

apart : {A : Type 0} {b : Bool} → b ≡ true → b ≡ false → A
apart e f = cc

-- ---- over what is met in all

abbrev mutual
  pub exact_over : Reading → Tree → List Part
  exact_over r (name version ty) = atom_form (atom_number r.atoms (Name version ty))
  exact_over r (constant word) = constant_form 128 (value word)
  exact_over r (node code ty args) =
      cond (goes_exactly code) (combined_form 128 code 0 (exacts_over r args)) (atom_form (atom_number r.atoms (Operation code ty (operands_over r.inner args))))

  pub exacts_over : Reading → Trees → List (List Part)
  exacts_over r nil = []
  exacts_over r (cons t ts) = exact_over r t ∷ exacts_over r ts

abbrev mutual
  pub Met : Reading → Tree → Type 0
  Met r (name version ty) = IsIn r.atoms (Name version ty)
  Met r (constant word) = ⊤
  Met r (node code ty args) = (goes_exactly code ≡ true → AllMet r args) × (goes_exactly code ≡ false → IsIn r.atoms (Operation code ty (operands_over r.inner args)) × HasFull r.inner args)

  pub AllMet : Reading → Trees → Type 0
  AllMet r nil = ⊤
  AllMet r (cons t ts) = Met r t × AllMet r ts

abbrev mutual
  pub exact_limited : Reading → Tree → Bool
  exact_limited r (name version ty) = true
  exact_limited r (constant word) = is_exact (constant_form 128 (value word))
  exact_limited r (node code ty args) = cond (goes_exactly code) (is_exact (combined_form 128 code 0 (exacts_over r args)) && all_exact_limited r args) (full_limited r.inner args)

  pub all_exact_limited : Reading → Trees → Bool
  all_exact_limited r nil = true
  all_exact_limited r (cons t ts) = exact_limited r t && all_exact_limited r ts

-- ---- what is met later changes nothing

pub record Further (old new : Reading) : Type 0 where
  pub inner : Extends old.inner new.inner
  pub atoms : Extends old.atoms new.atoms

module _ (old new : Reading) (more : Further old new) where
  kept_atom : (code : Code) (ty : Ty) (args : Trees) → IsIn old.atoms (Operation code ty (operands_over old.inner args)) → HasFull old.inner args
      → atom_number new.atoms (Operation code ty (operands_over new.inner args)) ≡ atom_number old.atoms (Operation code ty (operands_over old.inner args))
  kept_atom code ty args h g = ap (λ os. atom_number new.atoms (Operation code ty os)) (kept_operands old.inner new.inner more.inner args g) ∙ more.atoms.keeps (Operation code ty (operands_over old.inner args)) h

  mutual
    pub kept_exact : (t : Tree) → Met old t → exact_over new t ≡ exact_over old t
    kept_exact (name version ty) h = ap atom_form (more.atoms.keeps (Name version ty) h)
    kept_exact (constant word) h = refl
    kept_exact (node code ty args) h = by (goes_exactly code) refl (λ e. kept_exacts args (h.0 e))
      where
        by : (b : Bool) → goes_exactly code ≡ b → (goes_exactly code ≡ true → exacts_over new args ≡ exacts_over old args)
            → cond b (combined_form 128 code 0 (exacts_over new args)) (atom_form (atom_number new.atoms (Operation code ty (operands_over new.inner args))))
            ≡ cond b (combined_form 128 code 0 (exacts_over old args)) (atom_form (atom_number old.atoms (Operation code ty (operands_over old.inner args))))
        by true e f = ap (combined_form 128 code 0) (f e)
        by false e f = ap atom_form (kept_atom code ty args (h.1 e).0 (h.1 e).1)

    pub kept_exacts : (ts : Trees) → AllMet old ts → exacts_over new ts ≡ exacts_over old ts
    kept_exacts nil h = refl
    kept_exacts (cons t ts) h = λ i. kept_exact t h.0 i ∷ kept_exacts ts h.1 i

  mutual
    pub kept_met : (t : Tree) → Met old t → Met new t
    kept_met (name version ty) h = still_in old.atoms new.atoms (Name version ty) more.atoms h
    kept_met (constant word) h = tt
    kept_met (node code ty args) h = (
      λ e. kept_all_met args (h.0 e),
      λ e. (
        subst (λ os. IsIn new.atoms (Operation code ty os)) (sym (kept_operands old.inner new.inner more.inner args (h.1 e).1))
            (still_in old.atoms new.atoms (Operation code ty (operands_over old.inner args)) more.atoms (h.1 e).0),
        kept_has_full old.inner new.inner more.inner args (h.1 e).1,
      ),
    )

    pub kept_all_met : (ts : Trees) → AllMet old ts → AllMet new ts
    kept_all_met nil h = tt
    kept_all_met (cons t ts) h = (kept_met t h.0, kept_all_met ts h.1)

  mutual
    pub kept_exact_limited : (t : Tree) → Met old t → exact_limited new t ≡ exact_limited old t
    kept_exact_limited (name version ty) h = refl
    kept_exact_limited (constant word) h = refl
    kept_exact_limited (node code ty args) h = by (goes_exactly code) refl (λ e. kept_exacts args (h.0 e)) (λ e. kept_all_limited args (h.0 e))
      where
        by : (b : Bool) → goes_exactly code ≡ b → (goes_exactly code ≡ true → exacts_over new args ≡ exacts_over old args)
            → (goes_exactly code ≡ true → all_exact_limited new args ≡ all_exact_limited old args)
            → cond b (is_exact (combined_form 128 code 0 (exacts_over new args)) && all_exact_limited new args) (full_limited new.inner args)
            ≡ cond b (is_exact (combined_form 128 code 0 (exacts_over old args)) && all_exact_limited old args) (full_limited old.inner args)
        by true e f g = λ i. is_exact (combined_form 128 code 0 (f e i)) && g e i
        by false e f g = full_kept_limited old.inner new.inner more.inner args (h.1 e).1

    pub kept_all_limited : (ts : Trees) → AllMet old ts → all_exact_limited new ts ≡ all_exact_limited old ts
    kept_all_limited nil h = refl
    kept_all_limited (cons t ts) h = λ i. kept_exact_limited t h.0 i && kept_all_limited ts h.1 i

-- ---- what is met

abbrev pub now_met : Atom → Tree → Reading → Reading
now_met a t r = (met a t r).1

abbrev pub looked : Trees → Reading → Reading
looked args r = record { inner = after_full args r.inner; atoms = r.atoms; nodes = r.nodes }

abbrev pub with_atom_met : Code → Ty → Trees → Reading → Reading
with_atom_met code ty args r = now_met (Operation code ty (operands_over (after_full args r.inner) args)) (node code ty args) (looked args r)

abbrev mutual
  pub afterwards : Tree → Reading → Reading
  afterwards (name version ty) r = now_met (Name version ty) (name version ty) r
  afterwards (constant word) r = r
  afterwards (node code ty args) r = cond (goes_exactly code) (all_afterwards args r) (with_atom_met code ty args r)

  pub all_afterwards : Trees → Reading → Reading
  all_afterwards nil r = r
  all_afterwards (cons t ts) r = all_afterwards ts (afterwards t r)

then : (a b c : Reading) → Further a b → Further b c → Further a c
then a b c x y = record { inner = further a.inner b.inner c.inner x.inner y.inner; atoms = further a.atoms b.atoms c.atoms x.atoms y.atoms }

unchanged : (r : Reading) → Further r r
unchanged r = record { inner = itself r.inner; atoms = itself r.atoms }

mutual
  pub goes_further : (t : Tree) (r : Reading) → Further r (afterwards t r)
  goes_further (name version ty) r = record { inner = itself r.inner; atoms = extends_new r.atoms (Name version ty) }
  goes_further (constant word) r = unchanged r
  goes_further (node code ty args) r = by (goes_exactly code) (all_further args r)
    where
      by : (b : Bool) → Further r (all_afterwards args r) → Further r (cond b (all_afterwards args r) (with_atom_met code ty args r))
      by true h = h
      by false h = record { inner = full_extends args r.inner; atoms = extends_new r.atoms (Operation code ty (operands_over (after_full args r.inner) args)) }

  pub all_further : (ts : Trees) (r : Reading) → Further r (all_afterwards ts r)
  all_further nil r = unchanged r
  all_further (cons t ts) r = then r (afterwards t r) (all_afterwards ts (afterwards t r)) (goes_further t r) (all_further ts (afterwards t r))

mutual
  pub met_afterwards : (t : Tree) (r : Reading) → Met (afterwards t r) t
  met_afterwards (name version ty) r = new_in r.atoms (Name version ty)
  met_afterwards (constant word) r = tt
  met_afterwards (node code ty args) r = by (goes_exactly code) refl (all_met_afterwards args r)
    where
      by : (b : Bool) → goes_exactly code ≡ b → AllMet (all_afterwards args r) args
          → (goes_exactly code ≡ true → AllMet (cond b (all_afterwards args r) (with_atom_met code ty args r)) args)
          × (goes_exactly code ≡ false
          → IsIn (cond b (all_afterwards args r) (with_atom_met code ty args r)).atoms (Operation code ty (operands_over (cond b (all_afterwards args r) (with_atom_met code ty args r)).inner args))
          × HasFull (cond b (all_afterwards args r) (with_atom_met code ty args r)).inner args)
      by true e h = (λ f. h, λ f. apart e f)
      by false e h = (λ f. apart f e, λ f. (new_in r.atoms (Operation code ty (operands_over (after_full args r.inner) args)), has_full_after args r.inner))

  pub all_met_afterwards : (ts : Trees) (r : Reading) → AllMet (all_afterwards ts r) ts
  all_met_afterwards nil r = tt
  all_met_afterwards (cons t ts) r =
      (kept_met (afterwards t r) (all_afterwards ts (afterwards t r)) (all_further ts (afterwards t r)) t (met_afterwards t r), all_met_afterwards ts (afterwards t r))

-- ---- what is read

abbrev given : {X : Type 0} → Bool → X → Reading → Option (X × Reading)
given b x r = cond b (Some (x, r)) None

combined_is : (code : Code) (fs : List (List Part)) (r : Reading) (b : Bool) → exact_combined code (given b fs r) ≡ given (is_exact (combined_form 128 code 0 fs) && b) (combined_form 128 code 0 fs) r
combined_is code fs r true = by (is_exact (combined_form 128 code 0 fs))
  where
    by : (w : Bool) → given w (combined_form 128 code 0 fs) r ≡ given (w && true) (combined_form 128 code 0 fs) r
    by true = refl
    by false = refl
combined_is code fs r false = by (is_exact (combined_form 128 code 0 fs))
  where
    by : (w : Bool) → None ≡ given (w && false) (combined_form 128 code 0 fs) r
    by true = refl
    by false = refl

and_exacts_is : (f : List Part) (fs : List (List Part)) (r later : Reading) (a b : Bool) (rest : Reading → Option (List (List Part) × Reading)) → rest r ≡ given b fs later
    → and_exacts (given a f r) rest ≡ given (a && b) (f ∷ fs) later
and_exacts_is f fs r later false b rest e = refl
and_exacts_is f fs r later true b rest e = ap (exact_first f) e ∙ by b
  where
    by : (b : Bool) → exact_first f (given b fs later) ≡ given b (f ∷ fs) later
    by true = refl
    by false = refl

mutual
  pub exact_read_is : (t : Tree) (r : Reading) → exact_read t r ≡ given (exact_limited (afterwards t r) t) (exact_over (afterwards t r) t) (afterwards t r)
  exact_read_is (name version ty) r = λ i. Some (atom_form (sym (new_number r.atoms (Name version ty)) i), now_met (Name version ty) (name version ty) r)
  exact_read_is (constant word) r = refl
  exact_read_is (node code ty args) r = by (goes_exactly code) (exact_reads_are args r)
    where
      at_atom : (b : Bool) → exact_atom code ty (node code ty args) r (cond b (Some (operands_over (after_full args r.inner) args, after_full args r.inner)) None)
          ≡ given b (atom_form (atom_number r.atoms (Operation code ty (operands_over (after_full args r.inner) args)))) (with_atom_met code ty args r)
      at_atom true = refl
      at_atom false = refl

      by : (b : Bool) → exact_reads args r ≡ given (all_exact_limited (all_afterwards args r) args) (exacts_over (all_afterwards args r) args) (all_afterwards args r)
          → cond b (exact_combined code (exact_reads args r)) (exact_atom code ty (node code ty args) r (operand_forms args r.inner))
          ≡ (let last = cond b (all_afterwards args r) (with_atom_met code ty args r) in
          given (cond b (is_exact (combined_form 128 code 0 (exacts_over last args)) && all_exact_limited last args) (full_limited last.inner args))
          (cond b (combined_form 128 code 0 (exacts_over last args)) (atom_form (atom_number last.atoms (Operation code ty (operands_over last.inner args))))) last)
      by true e = ap (exact_combined code) e ∙ combined_is code (exacts_over (all_afterwards args r) args) (all_afterwards args r) (all_exact_limited (all_afterwards args r) args)
      by false e =
          ap (exact_atom code ty (node code ty args) r) (operand_forms_are args r.inner) ∙ at_atom (full_limited (after_full args r.inner) args)
          ∙ (λ i. given (full_limited (after_full args r.inner) args) (atom_form (sym (new_number r.atoms (Operation code ty (operands_over (after_full args r.inner) args))) i)) (with_atom_met code ty args r))

  pub exact_reads_are : (ts : Trees) (r : Reading) → exact_reads ts r ≡ given (all_exact_limited (all_afterwards ts r) ts) (exacts_over (all_afterwards ts r) ts) (all_afterwards ts r)
  exact_reads_are nil r = refl
  exact_reads_are (cons t ts) r =
      let more = all_further ts (afterwards t r) in
      let has = met_afterwards t r in
      ap (λ o. and_exacts o (exact_reads ts)) (exact_read_is t r)
      ∙ and_exacts_is (exact_over (afterwards t r) t) (exacts_over (all_afterwards ts (afterwards t r)) ts) (afterwards t r) (all_afterwards ts (afterwards t r)) (exact_limited (afterwards t r) t)
      (all_exact_limited (all_afterwards ts (afterwards t r)) ts) (exact_reads ts) (exact_reads_are ts (afterwards t r))
      ∙ (λ i. given (sym (kept_exact_limited (afterwards t r) (all_afterwards ts (afterwards t r)) more t has) i && all_exact_limited (all_afterwards ts (afterwards t r)) ts)
      (sym (kept_exact (afterwards t r) (all_afterwards ts (afterwards t r)) more t has) i ∷ exacts_over (all_afterwards ts (afterwards t r)) ts) (all_afterwards ts (afterwards t r)))
