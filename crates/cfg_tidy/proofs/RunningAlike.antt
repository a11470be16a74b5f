-- Two functions that do the same at each place where the first one comes run alike.
use Rattle.std.proofs.Common.{◌≡◌, ℕ, zero, suc, Bool, true, false, cond, not, Option, Some, None, List, [], ◌∷◌, map, eqb, refl, sym, ap, subst, ◌∙◌}
use Rattle.std.specs.Prelude.{filter}
use Rattle.std.specs.Option.{option_map_or}
use Rattle.std.proofs.lemmas.Bool.{both_ways, eq-eqb, eqb-true}
use Rattle.pm_wide.specs.Types.{Word}
use Rattle.pm_wide.specs.declared.operand.Operand.{Operand}
use Rattle.gim_ast.specs.declared.function.Function.{Function}
use Rattle.gim_ast.specs.declared.function.Block.{Block}
use Rattle.gim_ast.specs.declared.function.Phi.{Phi}
use Rattle.gim_ast.specs.declared.function.Stmt.{Stmt}
use Rattle.gim_ast.specs.Functions.{first_where}
use Rattle.gim_ast.specs.Runs.{Env, assign, assign_each, word_of_operand, zero_of, name_type, phi_word, after_phis, rhs_value, Stuck, pass_stmts, Place, Step, Further, Ended, step_at, outcome_of, run_from, start_of, run_of, entry_of}
use Rattle.gim_ast.specs.WellFormed.{is_empty, entry_has_no_phi}
use Rattle.std.proofs.lemmas.Option.{same_Some}
use Rattle.cfg_tidy.specs.Branches.{arg_stays, without_arg}
use Rattle.cfg_tidy.specs.SameRuns.{RunAlike}

module _ (f g : Function) (Good : Place → Type 0) where
  -- at a good place g does what f does, and that leads to a good place
  pub record StepsAlike : Type 0 where
    pub same : (place : Place) → Good place → step_at g place ≡ step_at f place
    pub goes_on : (place next : Place) → Good place → step_at f place ≡ Further next → Good next

  alike_from : StepsAlike → (fuel : ℕ) (place : Place) → Good place → run_from g fuel place ≡ run_from f fuel place
  alike_from steps zero place good = refl
  alike_from steps (suc fuel) place good =
      ap (outcome_of (run_from g fuel)) (steps.same place good) ∙ by (step_at f place) refl (alike_from steps fuel)
    where
      by : (step : Step) → step_at f place ≡ step → ((p : Place) → Good p → run_from g fuel p ≡ run_from f fuel p) →
          outcome_of (run_from g fuel) step ≡ outcome_of (run_from f fuel) step
      by (Further next) is more = more next (steps.goes_on place next good is)
      by (Ended outcome) is more = refl

  pub run_alike : StepsAlike → ((args : List Word) → start_of g args ≡ start_of f args) → ((args : List Word) → Good (start_of f args)) → RunAlike f g
  unfolding run_of
  run_alike steps starts good args fuel = ap (run_from g fuel) (starts args) ∙ alike_from steps fuel (start_of f args) (good args)

-- what has another key than the one looked for may go
pub others_found : {X : Type 0} (key : X → ℕ) (n m : ℕ) → (m ≡ n → ⊥) → (xs : List X) →
    first_where (λ x. eqb (key x) m) (filter (λ x. not (eqb (key x) n)) xs) ≡ first_where (λ x. eqb (key x) m) xs
others_found key n m other [] = refl
others_found {X} key n m other (x ∷ xs) = by (eqb (key x) n) refl (eqb (key x) m) refl (others_found key n m other xs)
  where
    stay : List X
    stay = filter (λ x. not (eqb (key x) n)) xs

    found : List X → Option X
    found = first_where (λ x. eqb (key x) m)

    by : (b : Bool) → eqb (key x) n ≡ b → (c : Bool) → eqb (key x) m ≡ c → found stay ≡ found xs →
        found (cond (not b) (x ∷ stay) stay) ≡ cond c (Some x) (found xs)
    by true is true here rest = absurd (other (sym (eqb-true (key x) m here) ∙ eqb-true (key x) n is))
    by true is false here rest = rest
    by false is true here rest = ap (λ b. cond b (Some x) (found stay)) here
    by false is false here rest = ap (λ b. cond b (Some x) (found stay)) here ∙ rest

-- the entry has no phi that a run could read
pub entry_phis : (blocks : List Block) → entry_has_no_phi blocks ≡ true → (block : Block) →
    first_where (λ (b : Block). eqb b.number (entry_of blocks)) blocks ≡ Some block → block.phis ≡ []
entry_phis [] plain block is = absurd (both_ways false refl plain)
entry_phis (first ∷ blocks) plain block is =
    let head = ap (λ t. cond t (Some first) (first_where (λ (b : Block). eqb b.number first.number) blocks)) (eq-eqb first.number first.number refl) in
    no_phi block.phis (subst (λ (b : Block). is_empty b.phis ≡ true) (same_Some first block (sym head ∙ is)) plain)
  where
    no_phi : (phis : List Phi) → is_empty phis ≡ true → phis ≡ []
    no_phi [] h = refl
    no_phi (phi ∷ phis) h = cc

-- ---- within a block

module _ (f g : Function) (typed : (x : ℕ) → name_type g x ≡ name_type f x) where
  pub same_stmts : (stmts : List Stmt) (env : Env) → pass_stmts g stmts env ≡ pass_stmts f stmts env
  same_stmts [] env = refl
  same_stmts (stmt ∷ stmts) env =
      ap (λ t. option_map_or (λ w. pass_stmts g stmts (assign stmt.name w env)) (rhs_value t env stmt.rhs) (Stuck stmt.name)) (typed stmt.name)
      ∙ by (rhs_value (name_type f stmt.name) env stmt.rhs) (λ w. same_stmts stmts (assign stmt.name w env))
    where
      by : (o : Option Word) → ((w : Word) → pass_stmts g stmts (assign stmt.name w env) ≡ pass_stmts f stmts (assign stmt.name w env)) →
          option_map_or (λ w. pass_stmts g stmts (assign stmt.name w env)) o (Stuck stmt.name) ≡
          option_map_or (λ w. pass_stmts f stmts (assign stmt.name w env)) o (Stuck stmt.name)
      by None rest = refl
      by (Some w) rest = rest w

  abbrev pair_of : Function → ℕ → Env → Phi → ℕ × Word
  pair_of h from env phi = (phi.name, phi_word h from env phi)

  same_pairs : (from : ℕ) (env : Env) (phis : List Phi) → map (pair_of g from env) phis ≡ map (pair_of f from env) phis
  same_pairs from env [] = refl
  same_pairs from env (phi ∷ phis) =
      ap (λ t. (phi.name, option_map_or (λ (arg : ℕ × Operand). word_of_operand env arg.1) (first_where (λ (arg : ℕ × Operand). eqb arg.0 from) phi.args) (zero_of t)) ∷ map (pair_of g from env) phis) (typed phi.name)
      ∙ ap (λ pairs. pair_of f from env phi ∷ pairs) (same_pairs from env phis)

  pub same_phis : (from : ℕ) (phis : List Phi) (env : Env) → after_phis g from phis env ≡ after_phis f from phis env
  same_phis from phis env = ap (λ pairs. assign_each pairs env) (same_pairs from env phis)

  other_pairs : (n from : ℕ) → (from ≡ n → ⊥) → (env : Env) (phis : List Phi) →
      map (pair_of g from env) (map (without_arg n) phis) ≡ map (pair_of f from env) phis
  other_pairs n from other env [] = refl
  other_pairs n from other env (phi ∷ phis) =
      ap (λ t. (phi.name, option_map_or (λ (arg : ℕ × Operand). word_of_operand env arg.1) (first_where (λ (arg : ℕ × Operand). eqb arg.0 from) (filter (arg_stays n) phi.args)) (zero_of t)) ∷ map (pair_of g from env) (map (without_arg n) phis)) (typed phi.name)
      ∙ (ap (λ o. (phi.name, option_map_or (λ (arg : ℕ × Operand). word_of_operand env arg.1) o (zero_of (name_type f phi.name))) ∷ map (pair_of g from env) (map (without_arg n) phis)) (others_found (λ (arg : ℕ × Operand). arg.0) n from other phi.args)
      ∙ ap (λ pairs. pair_of f from env phi ∷ pairs) (other_pairs n from other env phis))

  pub other_phis : (n from : ℕ) → (from ≡ n → ⊥) → (phis : List Phi) (env : Env) → after_phis g from (map (without_arg n) phis) env ≡ after_phis f from phis env
  other_phis n from other phis env = ap (λ pairs. assign_each pairs env) (other_pairs n from other env phis)
