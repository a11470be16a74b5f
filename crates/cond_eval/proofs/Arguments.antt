-- Calls on no argument, and on more than three.
use Rattle.std.proofs.Common.{◌≡◌, ℕ, ◌≤◌, ◌<◌, List, [], ◌∷◌, map, length, Option, Some, None, refl, arith}
use Rattle.std.specs.Option.{option_and_then}
use Rattle.pd_ast.specs.declared.call.Call.{Call}
use Rattle.cond_eval.specs.declared.value.CValue.{CValue}
use Rattle.cond_eval.specs.Calls.{call_value}
use Rattle.cond_eval.specs.Declarations.{flagged_call}

module _ {X : Type 0} (value : X → Option CValue) (uses : List (ℕ × ℕ)) where
  pub on_none : (call : Option Call) (args : List X) → length args < 1
      → None ≡ option_and_then (λ c. call_value c uses (map value args)) call
  on_none None args h = refl
  on_none (Some call) [] h = refl
  on_none (Some call) (a ∷ args) h = absurd (omega arith)

  pub on_many : (call : Option Call) (args : List X) → 3 < length args
      → None ≡ option_and_then (λ c. call_value c uses (map value args)) call
  on_many None args h = refl
  on_many (Some call) [] h = absurd (omega arith)
  on_many (Some call) (a ∷ []) h = absurd (omega arith)
  on_many (Some call) (a ∷ b ∷ []) h = absurd (omega arith)
  on_many (Some call) (a ∷ b ∷ c ∷ []) h = absurd (omega arith)
  on_many (Some call) (a ∷ b ∷ c ∷ d ∷ args) h = refl

module _ {X : Type 0} (value : X → Option CValue) where
  pub flagged_on_two : (call : Option Call) (args : List X) → 2 ≤ length args → length args < 3
      → None ≡ option_and_then (λ c. flagged_call c (map value args)) call
  flagged_on_two None args h k = refl
  flagged_on_two (Some call) [] h k = absurd (omega arith)
  flagged_on_two (Some call) (a ∷ []) h k = absurd (omega arith)
  flagged_on_two (Some call) (a ∷ b ∷ []) h k = refl
  flagged_on_two (Some call) (a ∷ b ∷ c ∷ args) h k = absurd (omega arith)

  pub flagged_on_many : (call : Option Call) (args : List X) → 3 < length args
      → None ≡ option_and_then (λ c. flagged_call c (map value args)) call
  flagged_on_many None args h = refl
  flagged_on_many (Some call) [] h = absurd (omega arith)
  flagged_on_many (Some call) (a ∷ []) h = absurd (omega arith)
  flagged_on_many (Some call) (a ∷ b ∷ []) h = absurd (omega arith)
  flagged_on_many (Some call) (a ∷ b ∷ c ∷ []) h = absurd (omega arith)
  flagged_on_many (Some call) (a ∷ b ∷ c ∷ d ∷ args) h = refl
