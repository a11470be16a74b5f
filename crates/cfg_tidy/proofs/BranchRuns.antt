-- A branch whose way is known becomes a jump: the function runs as before.
use Rattle.std.proofs.Common.{◌≡◌, ℕ, Bool, true, false, cond, not, Option, Some, None, List, [], ◌∷◌, ◌⊎◌, map, eqb, refl, sym, ap, subst, ◌∙◌, inl, inr, ⊎_elim}
use Rattle.std.specs.Option.{option_map, option_map_or}
use Rattle.std.proofs.lemmas.Bool.{both_ways, eq-eqb, eqb-true, eqb-false, and_right}
use Rattle.std.proofs.lemmas.Option.{same_Some, none-some}
use Rattle.pm_ops.specs.declared.code.Code.{Code}
use Rattle.pm_wide.specs.Types.{Word, bool_type}
use Rattle.pm_wide.specs.Typing.{well_typed_operation}
use Rattle.pm_wide.specs.declared.operand.Operand.{Operand}
use Rattle.pm_wide.specs.declared.operand.Operand.TheVariants.{Name, Const}
use Rattle.gim_ast.specs.declared.function.Function.{Function}
use Rattle.gim_ast.specs.declared.function.Block.{Block}
use Rattle.gim_ast.specs.declared.function.End.{End}
use Rattle.gim_ast.specs.declared.function.End.TheVariants.{Goto, If, Return}
use Rattle.gim_ast.specs.Functions.{block_of, row_of, targets_of}
use Rattle.gim_ast.specs.WellFormed.{entry_has_no_phi, is_among}
use Rattle.gim_ast.specs.Runs.{Env, name_type, start_env, holds, Lead, To, Out, lead_of, Passage, On, Stuck, pass_block, pass_stmts, after_phis, Place, Further, step_of_lead, step_of_passage, step_in, step_at, start_of, entry_of}
use Rattle.gim_meaning.proofs.ListSearch.{first_of_changed}
use Rattle.gim_meaning.proofs.Reached.{number_of_found, found_by_number}
use Rattle.cfg_tidy.specs.Branches.{holds_of, compared, decided, known_target, without_arg, is_lost, branched_in_block, branched}
use Rattle.cfg_tidy.specs.SameRuns.{RunAlike}
use Rattle.cfg_tidy.proofs.RunningAlike.{run_alike, entry_phis, same_stmts, same_phis, other_phis}

-- ---- the way that is known is taken

chosen_leads : (env : Env) (code : Code) (left right : Operand) (yes_to no_to to : ℕ) →
    option_map (λ b. cond b yes_to no_to) (decided code left right) ≡ Some to → To (cond (holds env code left right) yes_to no_to) ≡ To to
unfolding compared
chosen_leads env code (Name x t) right yes_to no_to to is = absurd (none-some to is)
chosen_leads env code (Const v) (Name y u) yes_to no_to to is = absurd (none-some to is)
chosen_leads env code (Const v) (Const w) yes_to no_to to is = by (well_typed_operation code bool_type (v.ty ∷ w.ty ∷ [])) is
  where
    by : (b : Bool) → option_map (λ b. cond b yes_to no_to) (cond b (Some (holds_of code v w)) None) ≡ Some to →
        To (cond (holds env code (Const v) (Const w)) yes_to no_to) ≡ To to
    by true h = ap To (same_Some (cond (holds_of code v w) yes_to no_to) to h)
    by false h = absurd (none-some to h)

pub known_leads : (env : Env) (end : End) (to : ℕ) → known_target end ≡ Some to → lead_of env end ≡ To to
known_leads env (Goto n) to is = absurd (none-some to is)
known_leads env (Return a) to is = absurd (none-some to is)
known_leads env (If code left right yes_to no_to) to is = by (eqb yes_to no_to) refl is
  where
    either : (b : Bool) → yes_to ≡ no_to → yes_to ≡ to → To (cond b yes_to no_to) ≡ To to
    either true equal same = ap To same
    either false equal same = ap To (sym equal ∙ same)

    by : (b : Bool) → eqb yes_to no_to ≡ b → cond b (Some yes_to) (option_map (λ b. cond b yes_to no_to) (decided code left right)) ≡ Some to →
        To (cond (holds env code left right) yes_to no_to) ≡ To to
    by true equal h = either (holds env code left right) (eqb-true yes_to no_to equal) (same_Some yes_to to h)
    by false equal h = chosen_leads env code left right yes_to no_to to h

module _ (f : Function) (block : Block) (to : ℕ) (found : block_of f block.number ≡ Some block)
    (known : known_target block.end ≡ Some to) (plain : entry_has_no_phi f.blocks ≡ true) where
  abbrev after : Function
  after = branched block.number block.end to f

  abbrev change : Block → Block
  change = branched_in_block block.number block.end to

  typed : (x : ℕ) → name_type after x ≡ name_type f x
  unfolding branched name_type row_of
  typed x = refl

  abbrev HasNoPhis : ℕ → Type 0
  HasNoPhis m = (b : Block) → block_of f m ≡ Some b → b.phis ≡ []

  -- no argument that went is read there
  abbrev Good : Place → Type 0
  Good place = (is_lost block.end to place.to ≡ false) ⊎ ((place.from ≡ block.number → ⊥) ⊎ HasNoPhis place.to)

  same_after : (place : Place) (b : Block) → block_of f place.to ≡ Some b → Good place →
      after_phis after place.from (change b).phis place.env ≡ after_phis f place.from b.phis place.env
  same_after place b is good = by (is_lost block.end to b.number) refl
    where
      by : (l : Bool) → is_lost block.end to b.number ≡ l →
          after_phis after place.from (cond l (map (without_arg block.number) b.phis) b.phis) place.env ≡ after_phis f place.from b.phis place.env
      by false kept = same_phis f after typed place.from b.phis place.env
      by true lost = ⊎_elim
          (λ kept. absurd (both_ways _ kept (subst (λ m. is_lost block.end to m ≡ true) (number_of_found f place.to b is) lost)))
          (λ more. ⊎_elim
          (λ other. other_phis f after typed block.number place.from other b.phis place.env)
          (λ none. subst (λ ps. after_phis after place.from (map (without_arg block.number) ps) place.env ≡ after_phis f place.from ps place.env) (sym (none b is)) refl)
          more)
          good

  same_passage : (place : Place) (b : Block) → block_of f place.to ≡ Some b → Good place →
      pass_block after place.from (change b) place.env ≡ pass_block f place.from b place.env
  unfolding pass_block
  same_passage place b is good =
      same_stmts f after typed b.stmts (after_phis after place.from (change b).phis place.env)
      ∙ ap (pass_stmts f b.stmts) (same_after place b is good)

  that_block : (m : ℕ) (b : Block) → block_of f m ≡ Some b → b.number ≡ block.number → block ≡ b
  that_block m b is number = same_Some block b (sym found ∙ subst (λ k. block_of f k ≡ Some b) number (found_by_number f m b is))

  same_lead : (m : ℕ) (b : Block) → block_of f m ≡ Some b → (env : Env) → lead_of env (change b).end ≡ lead_of env b.end
  same_lead m b is env = by (eqb b.number block.number) refl
    where
      by : (c : Bool) → eqb b.number block.number ≡ c → lead_of env (cond c (Goto to) b.end) ≡ lead_of env b.end
      by true same = subst (λ (c : Block). To to ≡ lead_of env c.end) (that_block m b is (eqb-true b.number block.number same)) (sym (known_leads env block.end to known))
      by false other = refl

  block_changed : (m : ℕ) → block_of after m ≡ option_map change (block_of f m)
  unfolding block_of branched
  block_changed m = first_of_changed (λ (b : Block). eqb b.number m) (λ (b : Block). eqb b.number m) change (λ b. refl) f.blocks

  same_step : (place : Place) → Good place → step_at after place ≡ step_at f place
  unfolding step_at
  same_step place good = ap (λ o. option_map_or (step_in after place) o (Further place)) (block_changed place.to) ∙ by (block_of f place.to) refl
    where
      led : (b : Block) → block_of f place.to ≡ Some b → (passage : Passage) → step_of_passage (change b) passage ≡ step_of_passage b passage
      led b is (On env) = ap (step_of_lead b.number env) (same_lead place.to b is env)
      led b is (Stuck x) = refl

      by : (o : Option Block) → block_of f place.to ≡ o →
          option_map_or (step_in after place) (option_map change o) (Further place) ≡ option_map_or (step_in f place) o (Further place)
      by None is = refl
      by (Some b) is = ap (step_of_passage (change b)) (same_passage place b is good) ∙ led b is (pass_block f place.from b place.env)

  -- to the known target no argument is lost
  target_stays : is_lost block.end to to ≡ false
  target_stays = and_right (is_among to (targets_of block.end)) (not (eqb to to)) (ap not (eq-eqb to to refl))

  goes_on : (place next : Place) → Good place → step_at f place ≡ Further next → Good next
  unfolding step_at
  goes_on place next good is = by (block_of f place.to) refl is
    where
      led_on : (b : Block) → block_of f place.to ≡ Some b → (env : Env) (m : ℕ) → lead_of env b.end ≡ To m →
          Good (record { from = b.number; to = m; env = env })
      led_on b there env m leads = choose (eqb b.number block.number) refl
        where
          choose : (c : Bool) → eqb b.number block.number ≡ c → Good (record { from = b.number; to = m; env = env })
          choose true same =
              let mine = subst (λ (c : Block). lead_of env c.end ≡ To m) (sym (that_block place.to b there (eqb-true b.number block.number same))) leads in
              let taken : To to ≡ To m = sym (known_leads env block.end to known) ∙ mine in
              let target : to ≡ m = cc in
              inl (subst (λ k. is_lost block.end to k ≡ false) target target_stays)
          choose false other = inr (inl (eqb-false b.number block.number other))

      led : (b : Block) → block_of f place.to ≡ Some b → (env : Env) (lead : Lead) → lead_of env b.end ≡ lead →
          step_of_lead b.number env lead ≡ Further next → Good next
      led b there env (To m) leads h =
          let same : record { from = b.number; to = m; env = env } ≡ next = cc in
          subst Good same (led_on b there env m leads)
      led b there env (Out w) leads h = cc

      passed : (b : Block) → block_of f place.to ≡ Some b → (passage : Passage) → step_of_passage b passage ≡ Further next → Good next
      passed b there (On env) h = led b there env (lead_of env b.end) refl h
      passed b there (Stuck x) h = cc

      by : (o : Option Block) → block_of f place.to ≡ o → option_map_or (step_in f place) o (Further place) ≡ Further next → Good next
      by None there h = let same : place ≡ next = cc in subst Good same good
      by (Some b) there h = passed b there (pass_block f place.from b place.env) h

  entry_same : (blocks : List Block) → entry_of (map change blocks) ≡ entry_of blocks
  entry_same [] = refl
  entry_same (b ∷ blocks) = refl

  starts : (args : List Word) → start_of after args ≡ start_of f args
  unfolding start_of start_env row_of branched
  starts args = ap (λ (m : ℕ). the_place m (start_env f args)) (entry_same f.blocks)
    where
      the_place : ℕ → Env → Place
      the_place m env = record { from = 0; to = m; env = env }

  good_start : (args : List Word) → Good (start_of f args)
  unfolding start_of block_of
  good_start args = inr (inr (λ b is. entry_phis f.blocks plain b is))

  pub branch_runs_alike : RunAlike f after
  branch_runs_alike = run_alike f after Good (record { same = same_step; goes_on = goes_on }) starts good_start
