-- Operands counted, and room that is left.
use Rattle.std.proofs.Common.{◌≡◌, ℕ, suc, ◌-◌, ◌<◌, ◌≤◌, ◌==◌, nat_lt, true, false, List, [], ◌∷◌, map, length, refl, sym, ap, ◌∙◌, ◌⊎◌, inl, inr, arith}
use Rattle.std.proofs.lemmas.Bool.{cases_Bool, ltb-true, ltb-false, eq-eqb, ne_eqb}
use Rattle.pd_forms.specs.declared.tree.PatternText.{PatternText}
use Rattle.pd_forms.specs.Trees.{operands, pattern_of}
use Rattle.pd_pattern_names.specs.Patterns.{count}

pub counted : (xs : List PatternText) → length xs ≡ count (operands (map pattern_of xs))
counted [] = refl
counted (x ∷ xs) = ap suc (counted xs)

-- no room is left of 33 exactly where there are more than 32
pub over : (n r : ℕ) → r ≡ 33 - n → (r == 0) ≡ nat_lt 32 n
over n r e = by_case (cases_Bool (nat_lt 32 n))
  where
    by_case : (nat_lt 32 n ≡ true) ⊎ (nat_lt 32 n ≡ false) → (r == 0) ≡ nat_lt 32 n
    by_case (inl more) = let beyond : 32 < n = ltb-true 32 n more in eq-eqb r 0 (omega arith) ∙ sym more
    by_case (inr few) = let within : n ≤ 32 = ltb-false 32 n few in ne_eqb r 0 (λ none. omega arith) ∙ sym few
