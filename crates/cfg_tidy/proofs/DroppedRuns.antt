-- A block that nothing reaches goes: the function runs as before.
use Rattle.std.proofs.Common.{◌≡◌, ℕ, true, false, Option, Some, None, List, [], ◌∷◌, ◌⊎◌, map, eqb, refl, sym, ap, subst, ◌∙◌, inl, inr, ⊎_elim}
use Rattle.std.specs.Prelude.{filter}
use Rattle.std.specs.Option.{option_map, option_map_or}
use Rattle.std.proofs.lemmas.Bool.{both_ways, ne_eqb}
use Rattle.pm_wide.specs.Types.{Word}
use Rattle.gim_ast.specs.declared.function.Function.{Function}
use Rattle.gim_ast.specs.declared.function.Block.{Block}
use Rattle.gim_ast.specs.Functions.{block_of, row_of, targets_of}
use Rattle.gim_ast.specs.WellFormed.{entry_has_no_phi, is_among}
use Rattle.gim_ast.specs.Runs.{Env, name_type, start_env, Lead, To, Out, lead_of, Passage, On, Stuck, pass_block, pass_stmts, after_phis, Place, Further, step_of_lead, step_of_passage, step_in, step_at, start_of, entry_of}
use Rattle.gim_meaning.proofs.AlongRuns.{lead_is_target}
use Rattle.gim_meaning.proofs.ListSearch.{first_of_changed}
use Rattle.gim_meaning.proofs.Reached.{number_of_found}
use Rattle.cfg_tidy.specs.Branches.{without_arg}
use Rattle.cfg_tidy.specs.Reached.{IsReached, entry, jump}
use Rattle.cfg_tidy.specs.Removal.{block_stays, without_args, dropped}
use Rattle.cfg_tidy.specs.SameRuns.{RunAlike}
use Rattle.cfg_tidy.proofs.RunningAlike.{run_alike, others_found, entry_phis, same_stmts, other_phis}

-- the entry is reached
pub entry_reached : (blocks : List Block) → entry_has_no_phi blocks ≡ true → IsReached blocks (entry_of blocks)
entry_reached [] plain = absurd (both_ways false refl plain)
entry_reached (first ∷ rest) plain = entry first rest refl

module _ (f : Function) (n : ℕ) (unreached : IsReached f.blocks n → ⊥) (plain : entry_has_no_phi f.blocks ≡ true) where
  abbrev after : Function
  after = dropped n f

  typed : (x : ℕ) → name_type after x ≡ name_type f x
  unfolding dropped name_type row_of
  typed x = refl

  abbrev HasNoPhis : ℕ → Type 0
  HasNoPhis m = (b : Block) → block_of f m ≡ Some b → b.phis ≡ []

  -- the way leads to a block that is reached, and no argument that went is read there
  abbrev Good : Place → Type 0
  Good place = IsReached f.blocks place.to × ((place.from ≡ n → ⊥) ⊎ HasNoPhis place.to)

  other_number : (m : ℕ) → IsReached f.blocks m → m ≡ n → ⊥
  other_number m reached same = unreached (subst (IsReached f.blocks) same reached)

  block_stands : (m : ℕ) → (m ≡ n → ⊥) → block_of after m ≡ option_map (without_args n) (block_of f m)
  unfolding block_of dropped
  block_stands m other =
      first_of_changed (λ (b : Block). eqb b.number m) (λ (b : Block). eqb b.number m) (without_args n) (λ b. refl) (filter (block_stays n) f.blocks)
      ∙ ap (option_map (without_args n)) (others_found (λ (b : Block). b.number) n m other f.blocks)

  same_after : (place : Place) (b : Block) → block_of f place.to ≡ Some b → Good place →
      after_phis after place.from (map (without_arg n) b.phis) place.env ≡ after_phis f place.from b.phis place.env
  same_after place b is good = ⊎_elim
      (λ other. other_phis f after typed n place.from other b.phis place.env)
      (λ none. subst (λ ps. after_phis after place.from (map (without_arg n) ps) place.env ≡ after_phis f place.from ps place.env) (sym (none b is)) refl)
      good.1

  same_passage : (place : Place) (b : Block) → block_of f place.to ≡ Some b → Good place →
      pass_block after place.from (without_args n b) place.env ≡ pass_block f place.from b place.env
  unfolding pass_block
  same_passage place b is good =
      same_stmts f after typed b.stmts (after_phis after place.from (map (without_arg n) b.phis) place.env)
      ∙ ap (pass_stmts f b.stmts) (same_after place b is good)

  same_step : (place : Place) → Good place → step_at after place ≡ step_at f place
  unfolding step_at
  same_step place good = ap (λ o. option_map_or (step_in after place) o (Further place)) (block_stands place.to (other_number place.to good.0)) ∙ by (block_of f place.to) refl
    where
      led : (b : Block) (passage : Passage) → step_of_passage (without_args n b) passage ≡ step_of_passage b passage
      led b (On env) = refl
      led b (Stuck x) = refl

      by : (o : Option Block) → block_of f place.to ≡ o →
          option_map_or (step_in after place) (option_map (without_args n) o) (Further place) ≡ option_map_or (step_in f place) o (Further place)
      by None is = refl
      by (Some b) is = ap (step_of_passage (without_args n b)) (same_passage place b is good) ∙ led b (pass_block f place.from b place.env)

  target_reached : (m : ℕ) (b : Block) → block_of f m ≡ Some b → IsReached f.blocks m → (k : ℕ) → is_among k (targets_of b.end) ≡ true → IsReached f.blocks k
  unfolding block_of
  target_reached m b is reached k among =
      jump m k (subst (λ o. is_among k (option_map_or (λ (c : Block). targets_of c.end) o []) ≡ true) (sym is) among) reached

  goes_on : (place next : Place) → Good place → step_at f place ≡ Further next → Good next
  unfolding step_at
  goes_on place next good is = by (block_of f place.to) refl is
    where
      led : (b : Block) → block_of f place.to ≡ Some b → (env : Env) (lead : Lead) → lead_of env b.end ≡ lead →
          step_of_lead b.number env lead ≡ Further next → Good next
      led b there env (To m) leads h =
          let same : record { from = b.number; to = m; env = env } ≡ next = cc in
          let number = number_of_found f place.to b there in
          subst Good same (
            target_reached place.to b there good.0 m (lead_is_target env b.end m leads),
            inl (subst (λ k. k ≡ n → ⊥) (sym number) (other_number place.to good.0)),
          )
      led b there env (Out w) leads h = cc

      passed : (b : Block) → block_of f place.to ≡ Some b → (passage : Passage) → step_of_passage b passage ≡ Further next → Good next
      passed b there (On env) h = led b there env (lead_of env b.end) refl h
      passed b there (Stuck x) h = cc

      by : (o : Option Block) → block_of f place.to ≡ o → option_map_or (step_in f place) o (Further place) ≡ Further next → Good next
      by None there h = let same : place ≡ next = cc in subst Good same good
      by (Some b) there h = passed b there (pass_block f place.from b place.env) h

  entry_stands : (blocks : List Block) → (entry_of blocks ≡ n → ⊥) → entry_has_no_phi blocks ≡ true →
      entry_of (map (without_args n) (filter (block_stays n) blocks)) ≡ entry_of blocks
  entry_stands [] other some = absurd (both_ways false refl some)
  entry_stands (first ∷ blocks) other some = rw (ne_eqb first.number n other) refl

  starts : (args : List Word) → start_of after args ≡ start_of f args
  unfolding start_of start_env row_of dropped
  starts args = ap (λ (m : ℕ). the_place m (start_env f args))
      (entry_stands f.blocks (other_number (entry_of f.blocks) (entry_reached f.blocks plain)) plain)
    where
      the_place : ℕ → Env → Place
      the_place m env = record { from = 0; to = m; env = env }

  good_start : (args : List Word) → Good (start_of f args)
  unfolding start_of block_of
  good_start args = (entry_reached f.blocks plain, inr (λ b is. entry_phis f.blocks plain b is))

  pub dropping_runs_alike : RunAlike f after
  dropping_runs_alike = run_alike f after Good (record { same = same_step; goes_on = goes_on }) starts good_start
