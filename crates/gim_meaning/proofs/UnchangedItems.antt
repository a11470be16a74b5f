-- Items that a change leaves: statements pass on alike.
use Rattle.std.proofs.Common.{◌≡◌, ℕ, Bool, true, false, cond, Some, List, ◌∷◌, refl, ap, ◌∙◌}
use Rattle.pm_wide.specs.Types.{Word}
use Rattle.gim_ast.specs.declared.function.Function.{Function}
use Rattle.gim_ast.specs.declared.function.Block.{Block}
use Rattle.gim_ast.specs.declared.function.Stmt.{Stmt}
use Rattle.gim_ast.specs.Functions.{operands_of}
use Rattle.gim_ast.specs.Runs.{Env, assign, name_type, rhs_value, pass_stmts, On}
use Rattle.gim_meaning.specs.ReachedPoints.{Inside, Reaches, Lies}
use Rattle.gim_meaning.proofs.Agreement.{AgreeOn, AllStand, agree_assigned, same_value}
use Rattle.gim_meaning.proofs.Lockstep.{PassesAlike, passes_alike, passes_stmt}
use Rattle.gim_meaning.proofs.OperandsStand.{TypedAlike, stmt_stands}
use Rattle.gim_meaning.proofs.Reached.{lies}

module _ (f g : Function) (Stands : ℕ → Type 0) (all : AllStand Stands (operands_of f))
    (typed : (block : Block) (stmt : Stmt) (stmts : List Stmt) → Lies f block (stmt ∷ stmts) →
    TypedAlike f g stmt.name) where
  -- one statement that is left
  pub same_step : (args : List Word) (block : Block) (stmt : Stmt) (stmts after : List Stmt)
      (e d : Env) (w : Word) → Reaches f args (Inside block (stmt ∷ stmts) e) → AgreeOn Stands e d →
      rhs_value (name_type f stmt.name) e stmt.rhs ≡ Some w →
      (next : Env) × (pass_stmts g (stmt ∷ after) d ≡ pass_stmts g after next) × AgreeOn Stands
      (assign stmt.name w e) next
  same_step args block stmt stmts after e d w reached agree value =
      let there = lies reached in (
        assign stmt.name w d,
        passes_stmt g stmt after d w
            (ap (λ t. rhs_value t d stmt.rhs) (typed block stmt stmts there)
            ∙ same_value Stands e d agree (name_type f stmt.name) stmt.rhs
            (stmt_stands f Stands all block stmt stmts there) ∙ value),
        agree_assigned Stands e d stmt.name w agree,
      )

  -- the last statements of a block, left as they are
  pub same_rest : (args : List Word) (block : Block) (stmts : List Stmt) (e after d : Env) →
      Reaches f args (Inside block stmts e) → pass_stmts f stmts e ≡ On after → AgreeOn Stands e d →
      PassesAlike g Stands after stmts d
  same_rest args block stmts e after d reached is agree =
      passes_alike f g Stands args block (λ ss. ss)
      (λ stmt ss e d w. same_step args block stmt ss ss e d w)
      (λ e d reached agree. (d, refl, agree)) stmts e after d reached is agree

-- what one change in two leaves, the choice of them leaves
pub left_by_choice : {X Y : Type 0} (see : X → Y) (b : Bool) (changed x : X) → see changed ≡ see x →
    see (cond b changed x) ≡ see x
left_by_choice see true changed x same = same
left_by_choice see false changed x same = refl
