-- Leaves counted, and room that is left.
use Rattle.std.proofs.Common.{◌≡◌, ℕ, suc, ◌-◌, ◌<◌, ◌≤◌, ◌==◌, nat_lt, true, false, List, [], ◌∷◌, map, length, refl, sym, ap, ◌∙◌, ◌⊎◌, inl, inr, arith}
use Rattle.std.proofs.lemmas.Bool.{cases_Bool, ltb-true, ltb-false, eq-eqb, ne_eqb}
use Rattle.pd_forms.specs.declared.tree.LeafText.{LeafText}
use Rattle.pd_forms.specs.Results.{leaves, leaf_of}
use Rattle.pd_names.specs.Results.{count}

pub counted : (xs : List LeafText) → length xs ≡ count (leaves (map leaf_of xs))
counted [] = refl
counted (x ∷ xs) = ap suc (counted xs)

-- no room is left of 17 exactly where there are more than 16
pub over : (n r : ℕ) → r ≡ 17 - n → (r == 0) ≡ nat_lt 16 n
over n r e = by_case (cases_Bool (nat_lt 16 n))
  where
    by_case : (nat_lt 16 n ≡ true) ⊎ (nat_lt 16 n ≡ false) → (r == 0) ≡ nat_lt 16 n
    by_case (inl more) = let beyond : 16 < n = ltb-true 16 n more in eq-eqb r 0 (omega arith) ∙ sym more
    by_case (inr few) = let within : n ≤ 16 = ltb-false 16 n few in ne_eqb r 0 (λ none. omega arith) ∙ sym few
