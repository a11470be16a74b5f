-- A new right side or condition keeps every defined run where it gives what the old one gave.
use Rattle.std.proofs.Common.{◌≡◌, ℕ, Bool, true, false, cond, eqb, Some, List, [], ◌∷◌, map, refl}
use Rattle.std.proofs.Common.{sym, ap, subst, ◌∙◌}
use Rattle.std.specs.List.{flat_map}
use Rattle.std.proofs.lemmas.Bool.{eqb-true}
use Rattle.pm_ops.specs.declared.code.Code.{Code}
use Rattle.pm_wide.specs.Types.{Word}
use Rattle.pm_wide.specs.declared.operand.Operand.{Operand}
use Rattle.gim_ast.specs.declared.function.Function.{Function}
use Rattle.gim_ast.specs.declared.function.Block.{Block}
use Rattle.gim_ast.specs.declared.function.Phi.{Phi}
use Rattle.gim_ast.specs.declared.function.Stmt.{Stmt}
use Rattle.gim_ast.specs.declared.function.Rhs.{Rhs}
use Rattle.gim_ast.specs.declared.function.End.{End}
use Rattle.gim_ast.specs.declared.function.End.TheVariants.{Goto, If, Return}
use Rattle.gim_ast.specs.Functions.{operands_of, operands_of_rhs, operands_of_end, operands_of_phi}
use Rattle.gim_ast.specs.Functions.{row_of}
use Rattle.gim_ast.specs.Runs.{Env, assign, start_env, name_type, after_phis, rhs_value, pass_stmts}
use Rattle.gim_ast.specs.Runs.{lead_of, To}
use Rattle.gim_changes.specs.Substitution.{with_rhs_in_stmt, with_rhs_in_block, with_rhs}
use Rattle.gim_changes.specs.Substitution.{with_condition_in_end, with_condition_in_block}
use Rattle.gim_changes.specs.Substitution.{with_condition}
use Rattle.gim_meaning.specs.KeptRuns.{AreArgumentWords, KeepsDefinedRuns}
use Rattle.gim_meaning.specs.ReachedPoints.{Inside, Reaches}
use Rattle.gim_meaning.specs.SameReading.{GivesAlike, DecidesAlike}
use Rattle.gim_meaning.proofs.Agreement.{AgreeOn, agree_assigned, same_value, same_lead}
use Rattle.gim_meaning.proofs.Lockstep.{PassesAlike, GoesAlike, alike_keeps_runs, passes_alike}
use Rattle.gim_meaning.proofs.Lockstep.{passes_stmt}
use Rattle.gim_meaning.proofs.OperandsStand.{Any, all_stand, TypedAlike, same_phis, each_phi_typed}
use Rattle.gim_meaning.proofs.UnchangedItems.{same_rest, same_step, left_by_choice}

-- phis that a change leaves in a function of the same names
same_phis_on : (f g : Function) (from : ℕ) (block : Block) (phis : List Phi) (e d : Env) →
    ((x : ℕ) → TypedAlike f g x) → phis ≡ block.phis → AgreeOn Any e d →
    AgreeOn Any (after_phis f from block.phis e) (after_phis g from phis d)
same_phis_on f g from block phis e d typed same agree =
    subst (λ ps. AgreeOn Any (after_phis f from block.phis e) (after_phis g from ps d)) (sym same)
    (same_phis f g Any from block.phis e d agree (each_phi_typed f g typed block.phis)
    (all_stand (flat_map operands_of_phi block.phis)))

-- ---- a right side

module _ (f : Function) (x : ℕ) (rhs : Rhs) (gives : GivesAlike f x rhs) where
  rhs_typed : (y : ℕ) → TypedAlike f (with_rhs x rhs f) y
  unfolding name_type row_of with_rhs
  rhs_typed y = refl

  rhs_starts : (args : List Word) → start_env (with_rhs x rhs f) args ≡ start_env f args
  unfolding start_env row_of with_rhs
  rhs_starts args = refl

  module _ (args : List Word) (words : AreArgumentWords f args) where
    rhs_step : (block : Block) (stmt : Stmt) (stmts : List Stmt) (e d : Env) (w : Word) →
        Reaches f args (Inside block (stmt ∷ stmts) e) → AgreeOn Any e d →
        rhs_value (name_type f stmt.name) e stmt.rhs ≡ Some w →
        (next : Env) × (pass_stmts (with_rhs x rhs f)
        (map (with_rhs_in_stmt x rhs) (stmt ∷ stmts)) d ≡ pass_stmts (with_rhs x rhs f)
        (map (with_rhs_in_stmt x rhs) stmts) next) ×
        AgreeOn Any (assign stmt.name w e) next
    rhs_step block stmt stmts e d w reached agree value = by (eqb stmt.name x) refl
      where
        rest : List Stmt
        rest = map (with_rhs_in_stmt x rhs) stmts

        given : stmt.name ≡ x → rhs_value (name_type f stmt.name) e rhs ≡ Some w
        given same = ap (λ y. rhs_value (name_type f y) e rhs) same
            ∙ gives args words block stmt stmts e w reached same
            (ap (λ y. rhs_value (name_type f y) e stmt.rhs) (sym same) ∙ value)

        by : (b : Bool) → eqb stmt.name x ≡ b →
            (next : Env) × (pass_stmts (with_rhs x rhs f)
            (cond b (record stmt { rhs = rhs }) stmt ∷ rest) d ≡ pass_stmts
            (with_rhs x rhs f) rest next) × AgreeOn Any (assign stmt.name w e) next
        by true is = (
          assign stmt.name w d,
          passes_stmt (with_rhs x rhs f) (record stmt { rhs = rhs }) rest d w
              (ap (λ t. rhs_value t d rhs) (rhs_typed stmt.name)
              ∙ same_value Any e d agree (name_type f stmt.name) rhs
              (all_stand (operands_of_rhs rhs)) ∙ given (eqb-true stmt.name x is)),
          agree_assigned Any e d stmt.name w agree,
        )
        by false is = same_step f (with_rhs x rhs f) Any (all_stand (operands_of f))
            (λ b s ss there. rhs_typed s.name) args block stmt stmts rest e d w reached agree value

    goes_with_rhs : GoesAlike f (with_rhs x rhs f) (with_rhs_in_block x rhs) Any args
    goes_with_rhs = record {
      begins = λ y stands. ap (λ (env : Env). env y) (rhs_starts args);
      phis = λ place block d reached found agree. same_phis_on f
          (with_rhs x rhs f) place.from block block.phis place.env d rhs_typed refl agree;
      stmts = λ block e after d reached is agree.
          passes_alike f (with_rhs x rhs f) Any args block (map (with_rhs_in_stmt x rhs))
          (rhs_step block) (λ e d reached agree. (d, refl, agree)) block.stmts e after d reached
          is agree;
      ends = λ block e d reached agree. same_lead Any e d agree block.end
          (all_stand (operands_of_end block.end));
    }

  pub right_side_keeps_runs : KeepsDefinedRuns f (with_rhs x rhs f)
  unfolding with_rhs
  right_side_keeps_runs = alike_keeps_runs f (with_rhs x rhs f) (with_rhs_in_block x rhs)
      (λ block. refl) refl Any refl goes_with_rhs

-- ---- a condition

module _ (f : Function) (n : ℕ) (code : Code) (a b : Operand)
    (decides : DecidesAlike f n code a b) where
  abbrev changed : Block → Block
  changed block = with_condition_in_block n code a b block

  -- what the change leaves of a block
  left_of_block : {X : Type 0} (see : Block → X) (block : Block) →
      see (record block { end = with_condition_in_end code a b block.end }) ≡ see block →
      see (changed block) ≡ see block
  left_of_block see block same = left_by_choice see (eqb block.number n)
      (record block { end = with_condition_in_end code a b block.end }) block same

  condition_typed : (y : ℕ) → TypedAlike f (with_condition n code a b f) y
  unfolding name_type row_of with_condition
  condition_typed y = refl

  condition_starts : (args : List Word) → start_env
      (with_condition n code a b f) args ≡ start_env f args
  unfolding start_env row_of with_condition
  condition_starts args = refl

  module _ (args : List Word) (words : AreArgumentWords f args) where
    decided : (block : Block) (e : Env) → Reaches f args (Inside block [] e) → block.number ≡ n →
        (end : End) → block.end ≡ end → lead_of e
        (with_condition_in_end code a b end) ≡ lead_of e end
    decided block e reached number (Goto to) is = refl
    decided block e reached number (If old left right yes_to no_to) is =
        ap (λ t. To (cond t yes_to no_to))
        (decides args words block e old left right yes_to no_to reached number is)
    decided block e reached number (Return c) is = refl

    condition_ends : (block : Block) (e d : Env) → Reaches f args (Inside block [] e) →
        AgreeOn Any e d → lead_of d (changed block).end ≡ lead_of e block.end
    condition_ends block e d reached agree =
        same_lead Any e d agree (changed block).end
        (all_stand (operands_of_end (changed block).end)) ∙ by (eqb block.number n) refl
      where
        by : (t : Bool) → eqb block.number n ≡ t →
            lead_of e (cond t (record block { end = with_condition_in_end code a b block.end })
            block).end ≡ lead_of e block.end
        by true is = decided block e reached (eqb-true block.number n is) block.end refl
        by false is = refl

    goes_with_condition : GoesAlike f (with_condition n code a b f) changed Any args
    goes_with_condition = record {
      begins = λ y stands. ap (λ (env : Env). env y) (condition_starts args);
      phis = λ place block d reached found agree.
          same_phis_on f (with_condition n code a b f) place.from block
          (changed block).phis place.env d condition_typed
          (left_of_block (λ (c : Block). c.phis) block refl) agree;
      stmts = λ block e after d reached is agree.
          subst (λ ss. PassesAlike (with_condition n code a b f) Any after ss d)
          (sym (left_of_block (λ (c : Block). c.stmts) block refl))
          (same_rest f (with_condition n code a b f) Any (all_stand (operands_of f))
          (λ c s ss there. condition_typed s.name) args block block.stmts e after d reached is
          agree);
      ends = condition_ends;
    }

  pub condition_keeps_runs : KeepsDefinedRuns f (with_condition n code a b f)
  unfolding with_condition
  condition_keeps_runs =
      alike_keeps_runs f (with_condition n code a b f) changed
      (λ block. left_of_block (λ (c : Block). c.number) block refl) refl Any refl
      goes_with_condition
