-- Two runs in lockstep: what each block of a changed function keeps, the whole run keeps.
use Rattle.std.proofs.Common.{◌≡◌, ℕ, zero, suc, Option, Some, None, List, [], ◌∷◌, map, refl, ap}
use Rattle.std.proofs.Common.{ap₂, subst, ◌∙◌, ◌==◌}
use Rattle.std.specs.Prelude.{option_map}
use Rattle.std.specs.Option.{option_map_or}
use Rattle.pm_wide.specs.Types.{Word}
use Rattle.gim_ast.specs.declared.function.Function.{Function}
use Rattle.gim_ast.specs.declared.function.Block.{Block}
use Rattle.gim_ast.specs.declared.function.Stmt.{Stmt}
use Rattle.gim_ast.specs.Functions.{block_of, first_where}
use Rattle.gim_ast.specs.Runs.{Env, assign, start_env, name_type, after_phis, rhs_value, Passage}
use Rattle.gim_ast.specs.Runs.{On, Stuck, pass_stmts, pass_block, Lead, To, Out, lead_of, Place}
use Rattle.gim_ast.specs.Runs.{Further, Undefined, step_of_lead, step_of_passage, step_in, step_at}
use Rattle.gim_ast.specs.Runs.{outcome_of, run_from, entry_of, start_of, run_of}
use Rattle.gim_meaning.specs.ReachedPoints.{Between, Inside, Reaches, start, enter, pass, leave}
use Rattle.gim_meaning.specs.KeptRuns.{AreArgumentWords, KeepsDefinedRuns}
use Rattle.gim_meaning.proofs.Agreement.{AgreeOn}
use Rattle.gim_meaning.proofs.ListSearch.{first_of_changed}
use Rattle.gim_meaning.proofs.Reached.{passed_first, reaches_end}

-- on the way from one block to another
abbrev pub way : ℕ → ℕ → Env → Place
way from to env = record { from = from; to = to; env = env }

-- g passes these statements to words that agree with those told
abbrev pub PassesAlike : Function → (ℕ → Type 0) → Env → List Stmt → Env → Type 0
PassesAlike g Stands after stmts d = (next : Env) ×
    (pass_stmts g stmts d ≡ On next) × AgreeOn Stands after next

-- on these arguments g does in each block, changed from a block of f, what f does there, as far as
-- names that stand tell
pub record GoesAlike (f g : Function) (change : Block → Block) (Stands : ℕ → Type 0)
    (args : List Word) : Type 0 where
  pub begins : AgreeOn Stands (start_env f args) (start_env g args)
  pub phis : (place : Place) (block : Block) (d : Env) → Reaches f args (Between place) →
      block_of f place.to ≡ Some block → AgreeOn Stands place.env d →
      AgreeOn Stands (after_phis f place.from block.phis place.env)
      (after_phis g place.from (change block).phis d)
  pub stmts : (block : Block) (e after d : Env) → Reaches f args (Inside block block.stmts e) →
      pass_stmts f block.stmts e ≡ On after → AgreeOn Stands e d →
      PassesAlike g Stands after (change block).stmts d
  pub ends : (block : Block) (e d : Env) → Reaches f args (Inside block [] e) → AgreeOn Stands e d →
      lead_of d (change block).end ≡ lead_of e block.end

module _ (f g : Function) (change : Block → Block)
    (numbers : (block : Block) → (change block).number ≡ block.number)
    (blocks : g.blocks ≡ map change f.blocks) where
  pub block_changed : (n : ℕ) → block_of g n ≡ option_map change (block_of f n)
  unfolding block_of
  block_changed n =
      ap (first_where (λ (block : Block). block.number == n)) blocks
      ∙ first_of_changed (λ (block : Block). block.number == n)
      (λ (block : Block). block.number == n) change
      (λ block. ap (λ m. m == n) (numbers block)) f.blocks

  pub entry_changed : entry_of g.blocks ≡ entry_of f.blocks
  entry_changed = ap entry_of blocks ∙ by f.blocks
    where
      by : (all : List Block) → entry_of (map change all) ≡ entry_of all
      by [] = refl
      by (block ∷ all) = numbers block

  module _ (Stands : ℕ → Type 0) (args : List Word) (alike : GoesAlike f g change Stands args) where
    -- from two ways to a block whose words agree, with some fuel
    abbrev SameFrom : ℕ → Type 0
    SameFrom fuel = (from to : ℕ) (e d : Env) → Reaches f args (Between (way from to e)) →
        AgreeOn Stands e d →
        ((x : ℕ) → run_from f fuel (way from to e) ≡ Undefined x → ⊥) →
        run_from g fuel (way from to d) ≡ run_from f fuel (way from to e)

    same_lead_on : (fuel : ℕ) → SameFrom fuel → (block : Block) (e d : Env) →
        Reaches f args (Inside block [] e) → AgreeOn Stands e d → (lead : Lead) →
        lead_of e block.end ≡ lead →
        ((x : ℕ) → outcome_of (run_from f fuel) (step_of_lead block.number e lead) ≡ Undefined x →
        ⊥) →
        outcome_of (run_from g fuel) (step_of_lead block.number d lead) ≡ outcome_of
        (run_from f fuel) (step_of_lead block.number e lead)
    same_lead_on fuel further block e d reached agree (To n) leads defined =
        further block.number n e d (leave block e n leads reached) agree defined
    same_lead_on fuel further block e d reached agree (Out w) leads defined = refl

    same_passage : (fuel : ℕ) → SameFrom fuel → (block : Block) (e d : Env) →
        Reaches f args (Inside block block.stmts e) → AgreeOn Stands e d →
        (passage : Passage) → pass_stmts f block.stmts e ≡ passage →
        ((x : ℕ) → outcome_of (run_from f fuel) (step_of_passage block passage) ≡ Undefined x → ⊥) →
        outcome_of (run_from g fuel) (step_of_passage (change block)
        (pass_stmts g (change block).stmts d)) ≡ outcome_of (run_from f fuel)
        (step_of_passage block passage)
    same_passage fuel further block e d reached agree (Stuck x) is defined = absurd (defined x refl)
    same_passage fuel further block e d reached agree (On after) is defined =
        let passed = alike.stmts block e after d reached is agree in
        let end = reaches_end f args block block.stmts e after reached is in
        ap (λ passage. outcome_of (run_from g fuel) (step_of_passage (change block) passage))
        passed.1
        ∙ ap₂ (λ n lead. outcome_of (run_from g fuel) (step_of_lead n passed.0 lead))
        (numbers block) (alike.ends block after passed.0 end passed.2)
        ∙ same_lead_on fuel further block after passed.0 end passed.2
        (lead_of after block.end) refl defined

    same_step : (fuel : ℕ) → SameFrom fuel → (from to : ℕ) (e d : Env) →
        Reaches f args (Between (way from to e)) → AgreeOn Stands e d →
        (found : Option Block) → block_of f to ≡ found →
        ((x : ℕ) → outcome_of (run_from f fuel)
        (option_map_or (step_in f (way from to e)) found (Further (way from to e)))
        ≡ Undefined x → ⊥) →
        outcome_of (run_from g fuel) (option_map_or (step_in g (way from to d))
        (option_map change found) (Further (way from to d)))
        ≡ outcome_of (run_from f fuel) (option_map_or (step_in f (way from to e)) found
        (Further (way from to e)))
    unfolding pass_block
    same_step fuel further from to e d reached agree None is defined =
        further from to e d reached agree defined
    same_step fuel further from to e d reached agree (Some block) is defined =
        same_passage fuel further block (after_phis f from block.phis e)
        (after_phis g from (change block).phis d)
        (enter (way from to e) block is reached)
        (alike.phis (way from to e) block d reached is agree)
        (pass_stmts f block.stmts (after_phis f from block.phis e)) refl defined

    same_from : (fuel : ℕ) → SameFrom fuel
    unfolding step_at
    same_from zero from to e d reached agree defined = refl
    same_from (suc fuel) from to e d reached agree defined =
        ap (λ found. outcome_of (run_from g fuel)
        (option_map_or (step_in g (way from to d)) found (Further (way from to d))))
        (block_changed to)
        ∙ same_step fuel (same_from fuel) from to e d reached agree (block_of f to) refl defined

    same_run : (fuel : ℕ) → ((x : ℕ) → run_of f args fuel ≡ Undefined x → ⊥) →
        run_of g args fuel ≡ run_of f args fuel
    unfolding run_of start_of
    same_run fuel defined =
        ap (λ n. run_from g fuel (way 0 n (start_env g args))) entry_changed
        ∙ same_from fuel 0 (entry_of f.blocks) (start_env f args)
        (start_env g args) begun alike.begins defined
      where
        begun : Reaches f args (Between (way 0 (entry_of f.blocks) (start_env f args)))
        begun = start

  -- a change that does in each block what was done there keeps every defined run
  pub alike_keeps_runs : (Stands : ℕ → Type 0) → g.params ≡ f.params →
      ((args : List Word) → AreArgumentWords f args → GoesAlike f g change Stands args) →
      KeepsDefinedRuns f g
  alike_keeps_runs Stands params alike = record {
    params = params;
    runs = λ args words fuel defined. same_run Stands args (alike args words) fuel defined;
  }

-- ---- statement by statement

module _ (f g : Function) (Stands : ℕ → Type 0) (args : List Word) (block : Block)
    (changed : List Stmt → List Stmt) where
  -- g does what it has for a statement, and what it has at the end, as f does
  abbrev pub StepsAlike : Type 0
  StepsAlike = (stmt : Stmt) (stmts : List Stmt) (e d : Env) (w : Word) →
      Reaches f args (Inside block (stmt ∷ stmts) e) → AgreeOn Stands e d →
      rhs_value (name_type f stmt.name) e stmt.rhs ≡ Some w →
      (next : Env) × (pass_stmts g (changed (stmt ∷ stmts)) d ≡ pass_stmts g (changed stmts) next) ×
      AgreeOn Stands (assign stmt.name w e) next

  abbrev pub EndsAlike : Type 0
  EndsAlike = (e d : Env) → Reaches f args (Inside block [] e) → AgreeOn Stands e d →
      PassesAlike g Stands e (changed []) d

  pub passes_alike : StepsAlike → EndsAlike → (stmts : List Stmt) (e after d : Env) →
      Reaches f args (Inside block stmts e) → pass_stmts f stmts e ≡ On after → AgreeOn Stands e d →
      PassesAlike g Stands after (changed stmts) d
  passes_alike steps ends [] e after d reached is agree =
      let same : e ≡ after = cc in
      subst (λ env. PassesAlike g Stands env (changed []) d) same (ends e d reached agree)
  passes_alike steps ends (stmt ∷ stmts) e after d reached is agree =
      let passed = passed_first f stmt stmts e after is in
      let stepped = steps stmt stmts e d passed.0 reached agree passed.1 in
      let rest = passes_alike steps ends stmts (assign stmt.name passed.0 e) after stepped.0
      (pass block stmt stmts e passed.0 passed.1 reached) passed.2 stepped.2 in
      (rest.0, stepped.1 ∙ rest.1, rest.2)

-- a statement of g that has the value passes on
pub passes_stmt : (g : Function) (stmt : Stmt) (stmts : List Stmt) (d : Env) (w : Word) →
    rhs_value (name_type g stmt.name) d stmt.rhs ≡ Some w →
    pass_stmts g (stmt ∷ stmts) d ≡ pass_stmts g stmts (assign stmt.name w d)
passes_stmt g stmt stmts d w value = ap (λ found. option_map_or
    (λ v. pass_stmts g stmts (assign stmt.name v d)) found (Stuck stmt.name)) value
