-- Where a term has a value each node has one; refining is an order.
use Rattle.std.proofs.Common.{◌≡◌, ℕ, List, Option, Some, None, refl, ◌∙◌}
use Rattle.std.specs.Prelude.{IsSome}
use Rattle.pm_ops.specs.declared.code.Code.{Code}
use Rattle.pm_wide.specs.Types.{Ty, Word}
use Rattle.pm_term.specs.Refines.{HasValues, HaveValues, Refines}
use Rattle.pm_term.specs.Terms.{operation_on, with_value, term_value, term_values}
use Rattle.pm_term.specs.Trees.{Tree, name, constant, node, Trees, nil, cons}

pub on_values : (code : Code) (ty : Ty) (o : Option (List Word)) (r : Word) → operation_on code ty o ≡ Some r → (ws : List Word) × (o ≡ Some ws)
on_values code ty None r e = cc
on_values code ty (Some ws) r e = (ws, refl)

pub both : (o : Option Word) (p : Option (List Word)) (ws : List Word) → with_value o p ≡ Some ws → (x : Word) × (xs : List Word) × (o ≡ Some x) × (p ≡ Some xs)
both None p ws e = cc
both (Some x) None ws e = cc
both (Some x) (Some xs) ws e = (x, xs, refl, refl)

there : (o : Option Word) (r : Word) → o ≡ Some r → IsSome o
there None r e = cc
there (Some x) r e = refl

mutual
  pub each_node : (words : ℕ → Ty → Word) (t : Tree) (r : Word) → term_value words t ≡ Some r → HasValues words t
  each_node words (name version ty) r e = tt
  each_node words (constant word) r e = tt
  each_node words (node code ty args) r e =
      let ws = on_values code ty (term_values words args) r e in (there (term_value words (node code ty args)) r e, each_operand words args ws.0 ws.1)

  each_operand : (words : ℕ → Ty → Word) (ts : Trees) (rs : List Word) → term_values words ts ≡ Some rs → HaveValues words ts
  each_operand words nil rs e = tt
  each_operand words (cons t ts) rs e =
      let h = both (term_value words t) (term_values words ts) rs e in (each_node words t h.0 h.2, each_operand words ts h.1 h.3)

pub itself : (t : Tree) → Refines t t
itself t = λ words r given e. (each_node words t r e, e, refl)

pub goes_on : (a b c : Tree) → Refines a b → Refines b c → Refines a c
goes_on a b c f g =
    λ words r given e. (let h = f words r given e in let i = g words r given h.1 in (i.0, i.1, i.2 ∙ h.2))
