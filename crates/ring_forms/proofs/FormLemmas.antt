-- Forms by place.
use Rattle.std.proofs.Common.{◌≡◌, ℕ, suc, ◌+◌, ◌-◌, ◌%◌, ◌^◌, ◌<◌, ◌==◌, Bool, true, false, cond, Some, List, [], ◌∷◌, length, slice_get, refl, sym, ap, subst, ◌∙◌, arith, eq-eqb, drop, drop-cons, get_or}
use Rattle.std.specs.Prelude.{nat_le, nat_eq, pos, negsuc, ◌+ℤ◌, insert, remove, slice_set}
use Rattle.std.specs.Cmp.Lexicographic.{slice_cmp, pointwise, texts_ties, pointwise_decides}
use Rattle.std.specs.Ordering.{nat_cmp, is_gt, is_eq}
use Rattle.std.specs.declared.cmp.Ordering.{Ordering}
use Rattle.std.specs.declared.cmp.Ordering.TheVariants.{Less, Equal, Greater}
use Rattle.std.proofs.lemmas.Bool.Decides.{Decides-eqb}
use Rattle.std.proofs.lemmas.Nat.{pow_pos}
use borrow.Author.Tests.{eqb-true}
use Rattle.pm_wide.specs.Residues.{residue}
use Rattle.pm_wide.proofs.Residues.{ones}
use Rattle.ring_forms.specs.declared.form.Part.{Part}
use Rattle.ring_forms.specs.Forms.{with_atom, joined_atoms, with_part, placed}
use Rattle.ring_forms.specs.Places.{atom_place, form_place, form_has}

pub minus_one : (m : ℕ) → m < 129 → (2 ^ 128 - 1) % 2 ^ m ≡ residue m (negsuc 0)
minus_one m h = let some = pow_pos m in let e : 2 ^ m - 1 ≡ 2 ^ m - 1 - 0 % 2 ^ m = omega arith in ones m h ∙ e

pub with_atom_at : (a : ℕ) (bs : List ℕ) → insert bs (atom_place a bs) a ≡ with_atom a bs
with_atom_at a [] = refl
with_atom_at a (b ∷ bs) = by (nat_le a b) (with_atom_at a bs)
  where
    by : (t : Bool) → insert bs (atom_place a bs) a ≡ with_atom a bs → insert (b ∷ bs) (cond t 0 (suc (atom_place a bs))) a ≡ cond t (a ∷ b ∷ bs) (b ∷ with_atom a bs)
    by true e = refl
    by false e = ap (λ xs. b ∷ xs) e

pub same_numbers : (xs ys : List ℕ) → pointwise nat_eq xs ys ≡ true → xs ≡ ys
same_numbers xs ys h = (pointwise_decides Decides-eqb xs ys).0 h

pub numbers_same : (xs ys : List ℕ) → xs ≡ ys → pointwise nat_eq xs ys ≡ true
numbers_same xs ys h = (pointwise_decides Decides-eqb xs ys).1 h

-- one list of atoms exactly where the order says so
pub equal_is : (xs ys : List ℕ) → slice_cmp nat_cmp xs ys ≡ Equal → xs ≡ ys
equal_is xs ys h = same_numbers xs ys (texts_ties xs ys ∙ ap is_eq h)

is_equal : (xs ys : List ℕ) → ys ≡ xs → is_eq (slice_cmp nat_cmp xs ys) ≡ true
is_equal xs ys h = sym (texts_ties xs ys) ∙ numbers_same xs ys (sym h)

-- a part that is new goes to its place
pub new_part : (m : ℕ) (p : Part) (f : List Part) → form_has p.atoms f (form_place p.atoms f) ≡ false → with_part m p f ≡ insert f (form_place p.atoms f) p
new_part m p [] h = refl
new_part m p (q ∷ qs) h = by (slice_cmp nat_cmp p.atoms q.atoms) refl h (new_part m p qs)
  where
    by : (o : Ordering) → slice_cmp nat_cmp p.atoms q.atoms ≡ o → form_has p.atoms (q ∷ qs) (cond (is_gt o) (suc (form_place p.atoms qs)) 0) ≡ false
        → (form_has p.atoms qs (form_place p.atoms qs) ≡ false → with_part m p qs ≡ insert qs (form_place p.atoms qs) p)
        → placed m p q qs (with_part m p qs) o ≡ insert (q ∷ qs) (cond (is_gt o) (suc (form_place p.atoms qs)) 0) p
    by Less e g later = refl
    by Equal e g later = let same = numbers_same q.atoms p.atoms (sym (equal_is p.atoms q.atoms e)) in cc
    by Greater e g later = ap (λ xs. q ∷ xs) (later g)

-- the form where the part at that place got this coefficient
abbrev pub stood : Part → List Part → ℕ → ℕ → List Part
stood p f place coefficient = cond (coefficient == 0) (remove f place) (slice_set f place (record { atoms = p.atoms; coefficient = coefficient }))

pub old_part : (m : ℕ) (p x : Part) (f : List Part) → form_has p.atoms f (form_place p.atoms f) ≡ true → slice_get f (form_place p.atoms f) ≡ Some x
    → with_part m p f ≡ stood p f (form_place p.atoms f) (residue m (pos x.coefficient +ℤ pos p.coefficient))
old_part m p x [] h g = cc
old_part m p x (q ∷ qs) h g = by (slice_cmp nat_cmp p.atoms q.atoms) refl h g (old_part m p x qs)
  where
    zeroed : (c : ℕ) (t : Bool) → cond t qs (record { atoms = p.atoms; coefficient = c } ∷ qs) ≡ cond t (remove (q ∷ qs) 0) (slice_set (q ∷ qs) 0 (record { atoms = p.atoms; coefficient = c }))
    zeroed c true = refl
    zeroed c false = refl

    later_zeroed : (k c : ℕ) (t : Bool) → (q ∷ cond t (remove qs k) (slice_set qs k (record { atoms = p.atoms; coefficient = c }))) ≡ cond t (remove (q ∷ qs) (suc k)) (slice_set (q ∷ qs) (suc k) (record { atoms = p.atoms; coefficient = c }))
    later_zeroed k c true = refl
    later_zeroed k c false = refl

    by : (o : Ordering) → slice_cmp nat_cmp p.atoms q.atoms ≡ o → form_has p.atoms (q ∷ qs) (cond (is_gt o) (suc (form_place p.atoms qs)) 0) ≡ true
        → slice_get (q ∷ qs) (cond (is_gt o) (suc (form_place p.atoms qs)) 0) ≡ Some x
        → (form_has p.atoms qs (form_place p.atoms qs) ≡ true → slice_get qs (form_place p.atoms qs) ≡ Some x → with_part m p qs ≡ stood p qs (form_place p.atoms qs) (residue m (pos x.coefficient +ℤ pos p.coefficient)))
        → placed m p q qs (with_part m p qs) o ≡ stood p (q ∷ qs) (cond (is_gt o) (suc (form_place p.atoms qs)) 0) (residue m (pos x.coefficient +ℤ pos p.coefficient))
    by Less e g i later = let same = is_equal p.atoms q.atoms (same_numbers q.atoms p.atoms g) in let no = ap is_eq e in cc
    by Equal e g i later =
        let is : q ≡ x = cc in
        subst (λ (y : Part). placed m p q qs (with_part m p qs) Equal ≡ stood p (q ∷ qs) 0 (residue m (pos y.coefficient +ℤ pos p.coefficient))) is
        (zeroed (residue m (pos q.coefficient +ℤ pos p.coefficient)) (residue m (pos q.coefficient +ℤ pos p.coefficient) == 0))
    by Greater e g i later =
        let c = residue m (pos x.coefficient +ℤ pos p.coefficient) in
        ap (λ xs. q ∷ xs) (later g i) ∙ later_zeroed (form_place p.atoms qs) (residue m (pos x.coefficient +ℤ pos p.coefficient)) (residue m (pos x.coefficient +ℤ pos p.coefficient) == 0)

-- the same as the code knows it: the coefficients add up to 0, or they don't
pub gone_part : (m : ℕ) (p x : Part) (f : List Part) (k c : ℕ) → k ≡ form_place p.atoms f → form_has p.atoms f k ≡ true → slice_get f k ≡ Some x
    → c ≡ residue m (pos x.coefficient +ℤ pos p.coefficient) → c ≡ 0 → remove f k ≡ with_part m p f
gone_part m p x f k c e h g is z =
    let whole = old_part m p x f (subst (λ i. form_has p.atoms f i ≡ true) e h) (subst (λ i. slice_get f i ≡ Some x) e g) in
    sym (ap (λ t. cond t (remove f k) (slice_set f k (record { atoms = p.atoms; coefficient = c }))) (eq-eqb c 0 z)) ∙ (λ i. stood p f (e i) (is i)) ∙ sym whole

pub changed_part : (m : ℕ) (p x : Part) (f : List Part) (k c : ℕ) → k ≡ form_place p.atoms f → form_has p.atoms f k ≡ true → slice_get f k ≡ Some x
    → c ≡ residue m (pos x.coefficient +ℤ pos p.coefficient) → (c ≡ 0 → ⊥) → slice_set f k (record { atoms = p.atoms; coefficient = c }) ≡ with_part m p f
changed_part m p x f k c e h g is z =
    let whole = old_part m p x f (subst (λ i. form_has p.atoms f i ≡ true) e h) (subst (λ i. slice_get f i ≡ Some x) e g) in
    sym (ap (λ t. cond t (remove f k) (slice_set f k (record { atoms = p.atoms; coefficient = c }))) (apart (c == 0) refl)) ∙ (λ i. stood p f (e i) (is i)) ∙ sym whole
  where
    apart : (t : Bool) → (c == 0) ≡ t → t ≡ false
    apart true q = absurd (z (eqb-true c 0 q))
    apart false q = refl

-- one atom more of the first product
pub joined_step : (first bs whole : List ℕ) (i : ℕ) → i < length first → joined_atoms (drop i first) bs ≡ whole → joined_atoms (drop (i + 1) first) (with_atom (get_or first i 0) bs) ≡ whole
joined_step first bs whole i h before =
    let next : i + 1 ≡ suc i = omega arith in
    ap (λ n. joined_atoms (drop n first) (with_atom (get_or first i 0) bs)) next ∙ sym (ap (λ xs. joined_atoms xs bs) (drop-cons first i 0 h)) ∙ before
