-- Removal of what is unused keeps every defined run: no other word depends on it.
use Rattle.std.proofs.Common.{◌≡◌, ℕ, zero, suc, Bool, true, false, cond, eqb, Option, Some, None}
use Rattle.std.proofs.Common.{List, [], ◌∷◌, map, length, not, refl, sym, ap, subst, ◌∙◌, ◌⊎◌, inl}
use Rattle.std.proofs.Common.{inr, ⊎_elim}
use Rattle.std.specs.Prelude.{filter}
use Rattle.std.specs.Option.{option_map_or}
use Rattle.std.specs.List.{flat_map}
use Rattle.std.proofs.lemmas.Bool.{eqb-true, not-true}
use Rattle.std.proofs.lemmas.Option.{same_Some, none-some}
use Rattle.pm_wide.specs.Types.{Word}
use Rattle.gim_ast.specs.declared.function.Function.{Function}
use Rattle.gim_ast.specs.declared.function.Block.{Block}
use Rattle.gim_ast.specs.declared.function.Phi.{Phi}
use Rattle.gim_ast.specs.declared.function.Stmt.{Stmt}
use Rattle.gim_ast.specs.Functions.{is_used, operands_of, operands_of_phi, row_of, assigned}
use Rattle.gim_ast.specs.Runs.{Env, assign, assign_each, start_env, name_type, phi_word, rhs_value}
use Rattle.gim_ast.specs.Runs.{pass_stmts}
use Rattle.gim_changes.specs.Removal.{phi_stays, stmt_stays, without_in_block, without, last_unused}
use Rattle.gim_changes.specs.Removal.{unused, last_or, pruned_by, pruned}
use Rattle.gim_run.specs.Blocks.{phi_pair}
use Rattle.gim_ast.proofs.ReadableLemmas.{all_left, all_right}
use Rattle.gim_meaning.specs.ReachedPoints.{Inside, Reaches}
use Rattle.gim_meaning.specs.KeptRuns.{KeepsDefinedRuns}
use Rattle.gim_meaning.proofs.Agreement.{AgreeOn, AllStand, OperandStands, agree_assigned}
use Rattle.gim_meaning.proofs.Agreement.{same_value, same_lead, same_phi_word}
use Rattle.gim_meaning.proofs.KeptInARow.{keeps_itself, keeps_through}
use Rattle.gim_meaning.proofs.Lockstep.{GoesAlike, StepsAlike, alike_keeps_runs, passes_alike}
use Rattle.gim_meaning.proofs.Lockstep.{passes_stmt}
use Rattle.gim_meaning.proofs.OperandsStand.{unused_stand, phis_stand, end_stands, stmt_stands}
use Rattle.gim_meaning.proofs.ReadableValues.{IsOther, others_agree}
use Rattle.gim_meaning.proofs.Reached.{lies}

-- words that agree on other names do so after an assignment of this one
unseen_assignment : (e d : Env) (x : ℕ) (w : Word) → AgreeOn (IsOther x) e d →
    AgreeOn (IsOther x) (assign x w e) d
unseen_assignment e d x w agree y other = agree y other ∙ sym (others_agree e x w y other)

module _ (x : ℕ) (f : Function) (none : is_used f x ≡ false) where
  all_others : AllStand (IsOther x) (operands_of f)
  all_others = unused_stand x (operands_of f) none

  typed_without : (y : ℕ) → name_type (without x f) y ≡ name_type f y
  unfolding name_type row_of without
  typed_without y = refl

  starts_without : (args : List Word) → start_env (without x f) args ≡ start_env f args
  unfolding start_env row_of without
  starts_without args = refl

  other_phis : (from : ℕ) (e d : Env) → AgreeOn (IsOther x) e d → (phis : List Phi) →
      AllStand (IsOther x) (flat_map operands_of_phi phis) → (now then : Env) →
      AgreeOn (IsOther x) now then →
      AgreeOn (IsOther x) (assign_each (map (phi_pair f from e) phis) now)
      (assign_each (map (phi_pair (without x f) from d) (filter (phi_stays x) phis)) then)
  other_phis from e d agree [] stand now then so_far = so_far
  other_phis from e d agree (phi ∷ phis) stand now then so_far =
      by (eqb phi.name x) refl
      (other_phis from e d agree phis (all_right (OperandStands (IsOther x)) (operands_of_phi phi)
      (flat_map operands_of_phi phis) stand))
    where
      w : Word
      w = phi_word f from e phi

      word_is : phi_word (without x f) from d phi ≡ w
      word_is = same_phi_word (IsOther x) e d agree f (without x f) from phi
          (typed_without phi.name) (all_left (OperandStands (IsOther x)) (operands_of_phi phi)
          (flat_map operands_of_phi phis) stand)

      by : (b : Bool) → eqb phi.name x ≡ b →
          ((now then : Env) → AgreeOn (IsOther x) now then →
          AgreeOn (IsOther x) (assign_each (map (phi_pair f from e) phis) now)
          (assign_each (map (phi_pair (without x f) from d) (filter (phi_stays x) phis)) then))
          →
          AgreeOn (IsOther x) (assign_each (map (phi_pair f from e) phis) (assign phi.name w now))
          (assign_each (map (phi_pair (without x f) from d)
          (cond (not b) (phi ∷ filter (phi_stays x) phis) (filter (phi_stays x) phis))) then)
      by true is rest =
          rest (assign phi.name w now) then
          (subst (λ z. AgreeOn (IsOther x) (assign z w now) then) (sym (eqb-true phi.name x is))
          (unseen_assignment now then x w so_far))
      by false is rest =
          rest (assign phi.name w now) (assign phi.name (phi_word (without x f) from d phi) then)
          (subst (λ v. AgreeOn (IsOther x) (assign phi.name w now) (assign phi.name v then))
          (sym word_is) (agree_assigned (IsOther x) now then phi.name w so_far))

  module _ (args : List Word) where
    -- what a statement gives doesn't depend on the name
    pub same_there : (block : Block) (stmt : Stmt) (stmts : List Stmt) (e d : Env) →
        Reaches f args (Inside block (stmt ∷ stmts) e) → AgreeOn (IsOther x) e d →
        rhs_value (name_type (without x f) stmt.name) d stmt.rhs
        ≡ rhs_value (name_type f stmt.name) e stmt.rhs
    same_there block stmt stmts e d reached agree =
        ap (λ t. rhs_value t d stmt.rhs) (typed_without stmt.name)
        ∙ same_value (IsOther x) e d agree (name_type f stmt.name) stmt.rhs
        (stmt_stands f (IsOther x) all_others block stmt stmts (lies reached))

    pub steps_without : (block : Block) →
        StepsAlike f (without x f) (IsOther x) args block (filter (stmt_stays x))
    steps_without block stmt stmts e d w reached agree value = by (eqb stmt.name x) refl
      where
        rest : List Stmt
        rest = filter (stmt_stays x) stmts

        by : (b : Bool) → eqb stmt.name x ≡ b →
            (next : Env) × (pass_stmts (without x f)
            (cond (not b) (stmt ∷ rest) rest) d ≡ pass_stmts (without x f) rest next) ×
            AgreeOn (IsOther x) (assign stmt.name w e) next
        by true is = (
          d,
          refl,
          subst (λ z. AgreeOn (IsOther x) (assign z w e) d)
              (sym (eqb-true stmt.name x is)) (unseen_assignment e d x w agree),
        )
        by false is = (
          assign stmt.name w d,
          passes_stmt
              (without x f) stmt rest d w (same_there block stmt stmts e d reached agree ∙ value),
          agree_assigned (IsOther x) e d stmt.name w agree,
        )

    pub goes_without : GoesAlike f (without x f) (without_in_block x) (IsOther x) args
    goes_without = record {
      begins = λ y other. ap (λ (env : Env). env y) (starts_without args);
      phis = λ place block d reached found agree.
          other_phis place.from place.env d agree block.phis
          (phis_stand f (IsOther x) all_others place.to block found) place.env d agree;
      stmts = λ block e after d reached is agree.
          passes_alike f (without x f) (IsOther x) args block (filter (stmt_stays x))
          (steps_without block) (λ e d reached agree. (d, refl, agree)) block.stmts e after d
          reached is agree;
      ends = λ block e d reached agree. same_lead (IsOther x) e d agree block.end
          (end_stands f (IsOther x) all_others block.number block (lies reached).found);
    }

  pub removal_keeps_runs : KeepsDefinedRuns f (without x f)
  unfolding without
  removal_keeps_runs = alike_keeps_runs f (without x f) (without_in_block x) (λ block. refl) refl
      (IsOther x) refl (λ args words. goes_without args)

-- ---- all that is unused

-- what comes last of those that pass a test passes it
last_passes : (p : ℕ → Bool) (x : ℕ) (found : Option ℕ) (xs : List ℕ) →
    last_or found (filter p xs) ≡ Some x → (found ≡ Some x) ⊎ (p x ≡ true)
last_passes p x found [] is = inl is
last_passes p x found (y ∷ ys) is = by (p y) refl is (λ o. last_passes p x o ys)
  where
    by : (b : Bool) → p y ≡ b → last_or found (cond b (y ∷ filter p ys) (filter p ys)) ≡ Some x →
        ((o : Option ℕ) → last_or o (filter p ys) ≡ Some x → (o ≡ Some x) ⊎ (p x ≡ true)) →
        (found ≡ Some x) ⊎ (p x ≡ true)
    by true passes e rest = ⊎_elim (λ last. inr
        (subst (λ z. p z ≡ true) (same_Some y x last) passes)) (λ earlier. inr earlier)
        (rest (Some y) e)
    by false passes e rest = rest found e

last_is_unused : (f : Function) (x : ℕ) → last_unused f ≡ Some x → is_used f x ≡ false
unfolding unused
last_is_unused f x is =
    ⊎_elim (λ found. absurd (none-some x found)) (λ passes. not-true (is_used f x) passes)
    (last_passes (λ y. not (is_used f y)) x None (assigned f) is)

removals_keep_runs : (n : ℕ) (f : Function) → KeepsDefinedRuns f (pruned_by n f)
removals_keep_runs zero f = keeps_itself f
removals_keep_runs (suc n) f = by (last_unused f) refl (removals_keep_runs n)
  where
    by : (o : Option ℕ) → last_unused f ≡ o →
        ((g : Function) → KeepsDefinedRuns g (pruned_by n g)) →
        KeepsDefinedRuns f (option_map_or (λ x. pruned_by n (without x f)) o f)
    by None is rest = keeps_itself f
    by (Some x) is rest = keeps_through f (without x f) (pruned_by n (without x f))
        (removal_keeps_runs x f (last_is_unused f x is)) (rest (without x f))

pub pruning_keeps_runs : (f : Function) → KeepsDefinedRuns f (pruned f)
unfolding pruned
pruning_keeps_runs f = removals_keep_runs (length (assigned f)) f
