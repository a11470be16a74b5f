-- A run ends as the last point tells to which it comes, and where a run comes tells how it goes on.
use Rattle.std.proofs.Common.{◌≡◌, ℕ, zero, suc, ◌+◌, Option, Some, None, List, [], ◌∷◌, refl, ap}
use Rattle.std.proofs.Common.{subst, ◌∙◌, arith}
use Rattle.std.specs.Prelude.{⊤}
use Rattle.std.specs.Option.{option_map_or}
use Rattle.pm_wide.specs.Types.{Word}
use Rattle.gim_ast.specs.declared.function.Function.{Function}
use Rattle.gim_ast.specs.declared.function.Block.{Block}
use Rattle.gim_ast.specs.declared.function.Stmt.{Stmt}
use Rattle.gim_ast.specs.Functions.{block_of}
use Rattle.gim_ast.specs.Runs.{Env, assign, name_type, after_phis, rhs_value, Passage, On, Stuck}
use Rattle.gim_ast.specs.Runs.{pass_stmts, pass_block, Lead, To, Out, lead_of, Place, Further}
use Rattle.gim_ast.specs.Runs.{Outcome, Returned, Undefined, Running, step_of_lead, step_of_passage}
use Rattle.gim_ast.specs.Runs.{step_in, step_at, outcome_of, run_from, start_of, run_of}
use Rattle.gim_meaning.specs.ReachedPoints.{Spot, Between, Inside, Reaches, start, enter, pass}
use Rattle.gim_meaning.specs.ReachedPoints.{leave, LeadsOut, IsStuckAt}
use Rattle.gim_meaning.proofs.Reached.{reaches_end}
use Rattle.gim_meaning.proofs.Lockstep.{passes_stmt}

-- ---- from the outcome to the point

module _ (f : Function) (args : List Word) where
  -- what the outcome tells
  abbrev Tells : Outcome → Type 0
  Tells (Returned w) = LeadsOut f args w
  Tells (Undefined x) = IsStuckAt f args x
  Tells Running = ⊤

  stuck_at : (block : Block) (stmts : List Stmt) (e : Env) (x : ℕ) →
      Reaches f args (Inside block stmts e) → pass_stmts f stmts e ≡ Stuck x → IsStuckAt f args x
  stuck_at block [] e x reached is = cc
  stuck_at block (stmt ∷ stmts) e x reached is =
      by (rhs_value (name_type f stmt.name) e stmt.rhs) refl is
      (λ w value further. stuck_at block stmts (assign stmt.name w e) x
      (pass block stmt stmts e w value reached) further)
    where
      by : (found : Option Word) → rhs_value (name_type f stmt.name) e stmt.rhs ≡ found →
          option_map_or (λ w. pass_stmts f stmts (assign stmt.name w e)) found
          (Stuck stmt.name) ≡ Stuck x →
          ((w : Word) → rhs_value (name_type f stmt.name) e stmt.rhs ≡ Some w →
          pass_stmts f stmts (assign stmt.name w e) ≡ Stuck x → IsStuckAt f args x) →
          IsStuckAt f args x
      by None none e_is rest = record {
        block = block;
        stmt = stmt;
        stmts = stmts;
        env =
            e;
        reached = reached;
        name = let same : stmt.name ≡ x = cc in same;
        none = none;
      }
      by (Some w) value e_is rest = rest w value e_is

  abbrev TellsFrom : ℕ → Type 0
  TellsFrom fuel = (place : Place) → Reaches f args (Between place) → Tells (run_from f fuel place)

  told_by_lead : (fuel : ℕ) → TellsFrom fuel → (block : Block) (e : Env) →
      Reaches f args (Inside block [] e) → (lead : Lead) → lead_of e block.end ≡ lead →
      Tells (outcome_of (run_from f fuel) (step_of_lead block.number e lead))
  told_by_lead fuel further block e reached (To n) leads =
      further (record { from = block.number; to = n; env = e }) (leave block e n leads reached)
  told_by_lead fuel further block e reached (Out w) leads =
      record { block = block; env = e; reached = reached; leads = leads }

  told_by_passage : (fuel : ℕ) → TellsFrom fuel → (block : Block) (e : Env) →
      Reaches f args (Inside block block.stmts e) → (passage : Passage) →
      pass_stmts f block.stmts e ≡ passage →
      Tells (outcome_of (run_from f fuel) (step_of_passage block passage))
  told_by_passage fuel further block e reached (On after) is =
      told_by_lead fuel further block after
      (reaches_end f args block block.stmts e after reached is) (lead_of after block.end) refl
  told_by_passage fuel further block e reached (Stuck x) is =
      stuck_at block block.stmts e x reached is

  told_by_step : (fuel : ℕ) → TellsFrom fuel → (place : Place) → Reaches f args (Between place) →
      (found : Option Block) → block_of f place.to ≡ found →
      Tells (outcome_of (run_from f fuel) (option_map_or (step_in f place) found (Further place)))
  unfolding pass_block
  told_by_step fuel further place reached None is = further place reached
  told_by_step fuel further place reached (Some block) is =
      let e = after_phis f place.from block.phis place.env in
      told_by_passage fuel further block e (enter place block is reached)
      (pass_stmts f block.stmts e) refl

  told_from : (fuel : ℕ) → TellsFrom fuel
  unfolding step_at
  told_from zero place reached = tt
  told_from (suc fuel) place reached = told_by_step fuel (told_from fuel) place reached
      (block_of f place.to) refl

  told : (fuel : ℕ) → Tells (run_of f args fuel)
  unfolding run_of
  told fuel = told_from fuel (start_of f args) start

  pub returned_at : (fuel : ℕ) (w : Word) → run_of f args fuel ≡ Returned w → LeadsOut f args w
  returned_at fuel w is = subst Tells is (told fuel)

  pub undefined_at : (fuel : ℕ) (x : ℕ) → run_of f args fuel ≡ Undefined x → IsStuckAt f args x
  undefined_at fuel x is = subst Tells is (told fuel)

  -- ---- from the point to the outcome

  -- with so much fuel more than told, the run goes on from the spot
  abbrev GoesOnFrom : Spot → Type 0
  GoesOnFrom (Between place) = (n : ℕ) ×
      ((fuel : ℕ) → run_of f args (n + fuel) ≡ run_from f fuel place)
  GoesOnFrom (Inside block stmts e) = (n : ℕ) ×
      ((fuel : ℕ) → run_of f args (n + suc fuel) ≡ outcome_of (run_from f fuel)
      (step_of_passage block (pass_stmts f stmts e)))

  entered : (place : Place) (block : Block) (fuel : ℕ) → block_of f place.to ≡ Some block →
      run_from f (suc fuel) place ≡ outcome_of (run_from f fuel)
      (step_of_passage block (pass_stmts f block.stmts
      (after_phis f place.from block.phis place.env)))
  unfolding step_at pass_block
  entered place block fuel is = ap (λ found. outcome_of (run_from f fuel)
      (option_map_or (step_in f place) found (Further place))) is

  from_start : (fuel : ℕ) → run_of f args (0 + fuel) ≡ run_from f fuel (start_of f args)
  unfolding run_of
  from_start fuel = let same : 0 + fuel ≡ fuel = omega arith in
      ap (λ n. run_from f n (start_of f args)) same

  goes_on_from : (spot : Spot) → Reaches f args spot → GoesOnFrom spot
  goes_on_from _ start = (0, from_start)
  goes_on_from _ (enter place block is before) =
      let so_far = goes_on_from (Between place) before in
      (so_far.0, λ fuel. so_far.1 (suc fuel) ∙ entered place block fuel is)
  goes_on_from _ (pass block stmt stmts e w value before) =
      let so_far = goes_on_from (Inside block (stmt ∷ stmts) e) before in (
        so_far.0,
        λ fuel. so_far.1 fuel ∙ ap
            (λ passage. outcome_of (run_from f fuel) (step_of_passage block passage))
            (passes_stmt f stmt stmts e w value),
      )
  goes_on_from _ (leave block e n leads before) =
      let so_far = goes_on_from (Inside block [] e) before in (
        suc so_far.0,
        λ fuel.
            let same : suc so_far.0 + fuel ≡ so_far.0 + suc fuel = omega arith in
            ap (run_of f args) same ∙ so_far.1 fuel
            ∙ ap (λ lead. outcome_of (run_from f fuel) (step_of_lead block.number e lead))
            leads,
      )

  pub returns_there : (w : Word) → LeadsOut f args w →
      (fuel : ℕ) × (run_of f args fuel ≡ Returned w)
  returns_there w out =
      let so_far = goes_on_from (Inside out.block [] out.env) out.reached in (
        so_far.0 + 1,
        so_far.1 0 ∙ ap (λ lead. outcome_of (run_from f 0)
            (step_of_lead out.block.number out.env lead)) out.leads,
      )

  pub undefined_there : (x : ℕ) → IsStuckAt f args x →
      (fuel : ℕ) × (run_of f args fuel ≡ Undefined x)
  undefined_there x stuck =
      let so_far = goes_on_from (Inside stuck.block (stuck.stmt ∷ stuck.stmts) stuck.env)
      stuck.reached in (
        so_far.0 + 1,
        so_far.1 0
            ∙ ap (λ found. outcome_of (run_from f 0)
            (step_of_passage stuck.block
            (option_map_or (λ w. pass_stmts f stuck.stmts (assign stuck.stmt.name w stuck.env))
            found (Stuck stuck.stmt.name)))) stuck.none
            ∙ ap Undefined stuck.name,
      )
