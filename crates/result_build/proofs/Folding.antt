-- The value of an operation, by the number of its operands.
use Rattle.std.proofs.Common.{◌≡◌, ◌≤◌, arith, Some, None, List, [], ◌∷◌, length, refl}
use Rattle.std.specs.Option.{option_and_then, option_map}
use Rattle.pm_ops.specs.declared.code.Code.{Code}
use Rattle.pm_wide.specs.Types.{Ty}
use Rattle.pm_wide.specs.Operations.{operation_value}
use Rattle.pm_wide.specs.declared.operand.Operand.{Operand}
use Rattle.pm_wide.specs.declared.operand.Operand.TheVariants.{Name, Const}
use Rattle.result_build.specs.Canons.{words_of, folded}

four_or_more : (code : Code) (t : Ty) (a b c d : Operand) (rest : List Operand)
    → option_and_then (operation_value code t) (words_of (a ∷ b ∷ c ∷ d ∷ rest)) ≡ None
unfolding operation_value
four_or_more code t (Name x u) b c d rest = refl
four_or_more code t (Const v) (Name x u) c d rest = refl
four_or_more code t (Const v) (Const w) (Name x u) d rest = refl
four_or_more code t (Const v) (Const w) (Const y) (Name x u) rest = refl
four_or_more code t (Const v) (Const w) (Const y) (Const z) rest =
    elim (words_of rest) as (λ o. option_and_then (operation_value code t)
    (option_map (λ ws. v ∷ ws) (option_map (λ ws. w ∷ ws) (option_map (λ ws. y ∷ ws) (option_map (λ ws. z ∷ ws) o))))
    ≡ None) [ None ↦ refl | Some ws ↦ refl ]

pub no_value : (code : Code) (t : Ty) (operands : List Operand) → 4 ≤ length operands
    → option_and_then (operation_value code t) (words_of operands) ≡ None
no_value code t [] many = absurd (omega arith)
no_value code t (a ∷ []) many = absurd (omega arith)
no_value code t (a ∷ b ∷ []) many = absurd (omega arith)
no_value code t (a ∷ b ∷ c ∷ []) many = absurd (omega arith)
no_value code t (a ∷ b ∷ c ∷ d ∷ rest) many = four_or_more code t a b c d rest
