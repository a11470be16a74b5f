-- There is at most one first unreadable use, and none in a valid function.
use Rattle.std.proofs.Common.{◌≡◌, ℕ, List, [], ◌∷◌, ◌++◌, sym, ap, ◌∙◌, subst}
use Rattle.std.specs.List.{AllByRecursion}
use Rattle.gim_ast.specs.declared.function.Function.{Function}
use Rattle.gim_ast.specs.Readable.{Use, IsReadableUse, IsValid, IsFirstUnreadable}
use Rattle.gim_ast.proofs.AssignedOnce.{rest_of, first_or}

one_first : {X : Type 0} (P : X → Type 0) (xs ys us vs : List X) (x u : X) → AllByRecursion P xs → (P x → ⊥) → AllByRecursion P us → (P u → ⊥) → xs ++ x ∷ ys ≡ us ++ u ∷ vs → x ≡ u
one_first P [] ys [] vs x u before not_x prior not_u e = ap (first_or x) e
one_first P [] ys (w ∷ us) vs x u before not_x prior not_u e = absurd (not_x (subst P (sym (ap (first_or x) e)) prior.0))
one_first P (w ∷ xs) ys [] vs x u before not_x prior not_u e = absurd (not_u (subst P (ap (first_or x) e) before.0))
one_first P (w ∷ xs) ys (z ∷ us) vs x u before not_x prior not_u e = one_first P xs ys us vs x u before.1 not_x prior.1 not_u (ap rest_of e)

pub first_is_one : (f : Function) (n k x m j y : ℕ) → IsFirstUnreadable f n k x → IsFirstUnreadable f m j y → (n ≡ m) × (k ≡ j) × (x ≡ y)
first_is_one f n k x m j y a b =
    let same = one_first (IsReadableUse f) a.before a.after b.before b.after a.first b.first a.readable_before a.unreadable b.readable_before b.unreadable
    (sym a.in_order ∙ b.in_order) in (
      sym a.same_block ∙ (ap (λ (u : Use). u.block) same ∙ b.same_block),
      sym a.same_item ∙ (ap (λ (u : Use). u.item) same ∙ b.same_item),
      sym a.same_name ∙ (ap (λ (u : Use). u.name) same ∙ b.same_name),
    )

none_of : {X : Type 0} (P : X → Type 0) (xs ys : List X) (x : X) → AllByRecursion P (xs ++ x ∷ ys) → P x
none_of P [] ys x all = all.0
none_of P (z ∷ xs) ys x all = none_of P xs ys x all.1

pub valid_has_no_first : (f : Function) (n k x : ℕ) → IsValid f → IsFirstUnreadable f n k x → ⊥
valid_has_no_first f n k x valid first =
    first.unreadable (none_of (IsReadableUse f) first.before first.after first.first (subst (AllByRecursion (IsReadableUse f)) first.in_order valid.readable))
