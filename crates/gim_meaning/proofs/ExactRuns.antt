-- Two runs in lockstep that are stuck alike too: then each run is as before, an undefined one as well.
use Rattle.std.proofs.Common.{◌≡◌, ℕ, zero, suc, Option, Some, None, List, [], ◌∷◌, map, refl, ap}
use Rattle.std.proofs.Common.{ap₂, ◌∙◌}
use Rattle.std.specs.Prelude.{option_map}
use Rattle.std.specs.Option.{option_map_or}
use Rattle.pm_wide.specs.Types.{Word}
use Rattle.gim_ast.specs.declared.function.Function.{Function}
use Rattle.gim_ast.specs.declared.function.Block.{Block}
use Rattle.gim_ast.specs.declared.function.Stmt.{Stmt}
use Rattle.gim_ast.specs.Functions.{block_of}
use Rattle.gim_ast.specs.Runs.{Env, assign, start_env, name_type, after_phis, rhs_value, Passage}
use Rattle.gim_ast.specs.Runs.{On, Stuck, pass_stmts, pass_block, Lead, To, Out, lead_of}
use Rattle.gim_ast.specs.Runs.{Further, step_of_lead, step_of_passage, step_in, step_at}
use Rattle.gim_ast.specs.Runs.{outcome_of, run_from, entry_of, start_of, run_of}
use Rattle.gim_meaning.specs.ReachedPoints.{Between, Inside, Reaches, start, enter, pass, leave}
use Rattle.gim_meaning.proofs.Agreement.{AgreeOn}
use Rattle.gim_meaning.proofs.Lockstep.{way, block_changed, entry_changed, GoesAlike, StepsAlike}
use Rattle.gim_meaning.proofs.Reached.{reaches_end}

-- where a run of f is stuck in a block, one of g with words that agree is stuck at the same name
abbrev pub IsStuckAlike : Function → Function → (Block → Block) → (ℕ → Type 0) → List Word → Type 0
IsStuckAlike f g change Stands args = (block : Block) (e d : Env) (x : ℕ) →
    Reaches f args (Inside block block.stmts e) → pass_stmts f block.stmts e ≡ Stuck x →
    AgreeOn Stands e d → pass_stmts g (change block).stmts d ≡ Stuck x

module _ (f g : Function) (change : Block → Block)
    (numbers : (block : Block) → (change block).number ≡ block.number)
    (blocks : g.blocks ≡ map change f.blocks) (Stands : ℕ → Type 0) (args : List Word)
    (alike : GoesAlike f g change Stands args) (stuck : IsStuckAlike f g change Stands args) where
  -- from two ways to a block whose words agree, with some fuel
  abbrev AsFrom : ℕ → Type 0
  AsFrom fuel = (from to : ℕ) (e d : Env) → Reaches f args (Between (way from to e)) →
      AgreeOn Stands e d → run_from g fuel (way from to d) ≡ run_from f fuel (way from to e)

  as_led : (fuel : ℕ) → AsFrom fuel → (block : Block) (e d : Env) →
      Reaches f args (Inside block [] e) → AgreeOn Stands e d → (lead : Lead) →
      lead_of e block.end ≡ lead →
      outcome_of (run_from g fuel) (step_of_lead block.number d lead) ≡ outcome_of
      (run_from f fuel) (step_of_lead block.number e lead)
  as_led fuel further block e d reached agree (To n) leads =
      further block.number n e d (leave block e n leads reached) agree
  as_led fuel further block e d reached agree (Out w) leads = refl

  as_passed : (fuel : ℕ) → AsFrom fuel → (block : Block) (e d : Env) →
      Reaches f args (Inside block block.stmts e) → AgreeOn Stands e d →
      (passage : Passage) → pass_stmts f block.stmts e ≡ passage →
      outcome_of (run_from g fuel) (step_of_passage (change block)
      (pass_stmts g (change block).stmts d)) ≡ outcome_of (run_from f fuel)
      (step_of_passage block passage)
  as_passed fuel further block e d reached agree (Stuck x) is =
      ap (λ passage. outcome_of (run_from g fuel) (step_of_passage (change block) passage))
      (stuck block e d x reached is agree)
  as_passed fuel further block e d reached agree (On after) is =
      let passed = alike.stmts block e after d reached is agree in
      let end = reaches_end f args block block.stmts e after reached is in
      ap (λ passage. outcome_of (run_from g fuel) (step_of_passage (change block) passage))
      passed.1
      ∙ ap₂ (λ n lead. outcome_of (run_from g fuel) (step_of_lead n passed.0 lead))
      (numbers block) (alike.ends block after passed.0 end passed.2)
      ∙ as_led fuel further block after passed.0 end passed.2 (lead_of after block.end) refl

  as_stepped : (fuel : ℕ) → AsFrom fuel → (from to : ℕ) (e d : Env) →
      Reaches f args (Between (way from to e)) → AgreeOn Stands e d →
      (found : Option Block) → block_of f to ≡ found →
      outcome_of (run_from g fuel) (option_map_or (step_in g (way from to d))
      (option_map change found) (Further (way from to d)))
      ≡ outcome_of (run_from f fuel) (option_map_or (step_in f (way from to e)) found
      (Further (way from to e)))
  unfolding pass_block
  as_stepped fuel further from to e d reached agree None is = further from to e d reached agree
  as_stepped fuel further from to e d reached agree (Some block) is =
      as_passed fuel further block (after_phis f from block.phis e)
      (after_phis g from (change block).phis d)
      (enter (way from to e) block is reached)
      (alike.phis (way from to e) block d reached is agree)
      (pass_stmts f block.stmts (after_phis f from block.phis e)) refl

  as_from : (fuel : ℕ) → AsFrom fuel
  unfolding step_at
  as_from zero from to e d reached agree = refl
  as_from (suc fuel) from to e d reached agree =
      ap (λ found. outcome_of (run_from g fuel)
      (option_map_or (step_in g (way from to d)) found (Further (way from to d))))
      (block_changed f g change numbers blocks to)
      ∙ as_stepped fuel (as_from fuel) from to e d reached agree (block_of f to) refl

  pub run_as_before : (fuel : ℕ) → run_of g args fuel ≡ run_of f args fuel
  unfolding run_of start_of
  run_as_before fuel =
      ap (λ n. run_from g fuel (way 0 n (start_env g args)))
      (entry_changed f g change numbers blocks)
      ∙ as_from fuel 0 (entry_of f.blocks) (start_env f args) (start_env g args) begun alike.begins
    where
      begun : Reaches f args (Between (way 0 (entry_of f.blocks) (start_env f args)))
      begun = start

-- ---- statement by statement

module _ (f g : Function) (Stands : ℕ → Type 0) (args : List Word) (block : Block)
    (changed : List Stmt → List Stmt) where
  -- where a statement has no value, what g has for it has none
  abbrev pub SticksAlike : Type 0
  SticksAlike = (stmt : Stmt) (stmts : List Stmt) (e d : Env) →
      Reaches f args (Inside block (stmt ∷ stmts) e) → AgreeOn Stands e d →
      rhs_value (name_type f stmt.name) e stmt.rhs ≡ None →
      pass_stmts g (changed (stmt ∷ stmts)) d ≡ Stuck stmt.name

  pub stuck_alike : StepsAlike f g Stands args block changed → SticksAlike →
      (x : ℕ) (stmts : List Stmt) (e d : Env) → Reaches f args (Inside block stmts e) →
      pass_stmts f stmts e ≡ Stuck x → AgreeOn Stands e d →
      pass_stmts g (changed stmts) d ≡ Stuck x
  stuck_alike steps sticks x [] e d reached is agree = cc
  stuck_alike steps sticks x (stmt ∷ stmts) e d reached is agree =
      by (rhs_value (name_type f stmt.name) e stmt.rhs) refl is
      (stuck_alike steps sticks x stmts)
    where
      by : (value : Option Word) → rhs_value (name_type f stmt.name) e stmt.rhs ≡ value →
          option_map_or (λ w. pass_stmts f stmts (assign stmt.name w e)) value (Stuck stmt.name)
          ≡ Stuck x →
          ((e d : Env) → Reaches f args (Inside block stmts e) → pass_stmts f stmts e ≡ Stuck x →
          AgreeOn Stands e d → pass_stmts g (changed stmts) d ≡ Stuck x) →
          pass_stmts g (changed (stmt ∷ stmts)) d ≡ Stuck x
      by None value is more = sticks stmt stmts e d reached agree value ∙ is
      by (Some w) value is more =
          let stepped = steps stmt stmts e d w reached agree value in
          stepped.1
          ∙ more (assign stmt.name w e) stepped.0 (pass block stmt stmts e w value reached) is
          stepped.2

-- a statement of g that has no value sticks
pub sticks_at : (g : Function) (stmt : Stmt) (stmts : List Stmt) (d : Env) →
    rhs_value (name_type g stmt.name) d stmt.rhs ≡ None →
    pass_stmts g (stmt ∷ stmts) d ≡ Stuck stmt.name
sticks_at g stmt stmts d none = ap (λ found. option_map_or
    (λ v. pass_stmts g stmts (assign stmt.name v d)) found (Stuck stmt.name)) none
