-- Rows of `names` whose names stand nowhere go: the function runs as before.
use Rattle.std.proofs.Common.{◌≡◌, ℕ, zero, suc, Bool, true, false, cond, Option, Some, None, List, [], ◌∷◌, ◌++◌, map, flat_map, eqb, refl, sym, ap, subst, ◌∙◌, inl, inr}
use Rattle.std.specs.Prelude.{filter}
use Rattle.std.specs.List.{list_any, AllByRecursion}
use Rattle.std.specs.Option.{option_map_or}
use Rattle.std.proofs.lemmas.Bool.{or_left, or_right, both_ways, eqb-true}
use Rattle.pm_wide.specs.Types.{Word, bool_type}
use Rattle.gim_ast.specs.declared.function.Function.{Function}
use Rattle.gim_ast.specs.declared.function.Block.{Block}
use Rattle.gim_ast.specs.declared.function.Phi.{Phi}
use Rattle.gim_ast.specs.declared.function.Stmt.{Stmt}
use Rattle.gim_ast.specs.declared.function.NameRow.{NameRow}
use Rattle.gim_ast.specs.Functions.{first_where, assigned, assigned_in, phi_name, stmt_name, operands_of, operands_of_block, operands_of_phi, operands_of_stmt, operands_of_end, is_used, row_of, block_of}
use Rattle.gim_ast.specs.Runs.{Env, assign, start_env, start_word, zero_of, name_type, after_phis, rhs_value, Passage, On, Stuck, pass_stmts, pass_block, Lead, To, Out, lead_of, Place, Further, step_of_lead, step_of_passage, step_in, step_at, outcome_of, run_from, entry_of, start_of, run_of}
use Rattle.gim_ast.proofs.ReadableLemmas.{all_left, all_right}
use Rattle.gim_changes.specs.Trimming.{stands_in, is_empty_text, row_stays, trimmed}
use Rattle.gim_changes.proofs.Members.{IsMember, member_left, member_right, part_member}
use Rattle.gim_changes.proofs.RulesOfNames.{first_passes, member_among}
use Rattle.gim_meaning.proofs.Agreement.{AgreeOn, AllStand, OperandStands, agree_assigned, same_value, same_lead}
use Rattle.gim_meaning.proofs.OperandsStand.{used_stand, weaker_stand, phis_stand, end_stands, same_phis, PhiTyped}
use Rattle.gim_meaning.proofs.ListSearch.{parts_of_found}
use Rattle.gim_meaning.proofs.Reached.{found_by_number}
use Rattle.cfg_tidy.specs.SameRuns.{RunAlike}

-- what two passages have in common: words that agree on the names that stand, or where they are stuck
PassAlike : (ℕ → Type 0) → Passage → Passage → Type 0
PassAlike Stands (On e) (On d) = AgreeOn Stands e d
PassAlike Stands (Stuck x) (Stuck y) = y ≡ x
PassAlike Stands (On e) (Stuck y) = ⊥
PassAlike Stands (Stuck x) (On d) = ⊥

module _ (f : Function) where
  abbrev StandsIn : ℕ → Type 0
  StandsIn y = stands_in f y ≡ true

  abbrev after : Function
  after = trimmed f

  same_first : (y : ℕ) → StandsIn y → (rows : List NameRow) →
      first_where (λ (row : NameRow). eqb row.version y) (filter (row_stays f) rows) ≡ first_where (λ (row : NameRow). eqb row.version y) rows
  same_first y stands [] = refl
  same_first y stands (row ∷ rows) = by (eqb row.version y) refl (row_stays f row) refl (same_first y stands rows)
    where
      first : List NameRow → Option NameRow
      first rs = first_where (λ (r : NameRow). eqb r.version y) rs

      by : (b : Bool) → eqb row.version y ≡ b → (c : Bool) → row_stays f row ≡ c → first (filter (row_stays f) rows) ≡ first rows →
          first (cond c (row ∷ filter (row_stays f) rows) (filter (row_stays f) rows)) ≡ cond b (Some row) (first rows)
      by true is true stays rest = ap (λ b. cond b (Some row) (first (filter (row_stays f) rows))) is
      by true is false goes rest = absurd (both_ways (row_stays f row) goes
          (or_left (stands_in f row.version) (is_empty_text row.base) (subst (λ v. stands_in f v ≡ true) (sym (eqb-true row.version y is)) stands)))
      by false is true stays rest = ap (λ b. cond b (Some row) (first (filter (row_stays f) rows))) is ∙ rest
      by false is false goes rest = rest

  same_row : (y : ℕ) → StandsIn y → row_of after y ≡ row_of f y
  unfolding row_of trimmed
  same_row y stands = same_first y stands f.names

  typed : (y : ℕ) → StandsIn y → name_type after y ≡ name_type f y
  unfolding name_type
  typed y stands = ap (λ found. option_map_or (λ (row : NameRow). row.ty) found bool_type) (same_row y stands)

  starts_alike : (args : List Word) → AgreeOn StandsIn (start_env f args) (start_env after args)
  unfolding start_env trimmed
  starts_alike args y stands = ap (λ found. option_map_or (start_word f args) found (zero_of bool_type)) (same_row y stands)

  operands_stand : AllStand StandsIn (operands_of f)
  operands_stand =
      weaker_stand (λ y. is_used f y ≡ true) StandsIn (λ y used. or_right (list_any (λ z. eqb z y) (assigned f)) (is_used f y) used) (operands_of f)
      (used_stand (operands_of f) (operands_of f) (λ y used. used))

  -- ---- the block of a number

  module _ (n : ℕ) (block : Block) (found : block_of f n ≡ Some block) where
    assigned_stands : (y : ℕ) → IsMember y (assigned_in block) → StandsIn y
    unfolding assigned block_of
    assigned_stands y mine =
        let one = (first_passes (λ (b : Block). eqb b.number n) f.blocks block found).0 in
        or_left (list_any (λ z. eqb z y) (assigned f)) (is_used f y) (member_among y (assigned f) (part_member assigned_in y block f.blocks one mine))

    phis_typed : (phis : List Phi) → ((y : ℕ) → IsMember y (map phi_name phis) → StandsIn y) → AllByRecursion (PhiTyped f after) phis
    phis_typed [] stand = tt
    phis_typed (phi ∷ phis) stand = (typed phi.name (stand phi.name (inl refl)), phis_typed phis (λ y mine. stand y (inr mine)))

    stmts_stand : AllStand StandsIn (flat_map operands_of_stmt block.stmts)
    unfolding operands_of block_of
    stmts_stand =
        let all = parts_of_found (λ (b : Block). eqb b.number n) (OperandStands StandsIn) operands_of_block f.blocks block found operands_stand in
        let phis = flat_map operands_of_phi block.phis in
        let stmts = flat_map operands_of_stmt block.stmts in
        all_right (OperandStands StandsIn) phis stmts (all_left (OperandStands StandsIn) (phis ++ stmts) (operands_of_end block.end) all)

    stmts_alike : (stmts : List Stmt) → AllStand StandsIn (flat_map operands_of_stmt stmts) → ((y : ℕ) → IsMember y (map stmt_name stmts) → StandsIn y) →
        (e d : Env) → AgreeOn StandsIn e d → PassAlike StandsIn (pass_stmts f stmts e) (pass_stmts after stmts d)
    unfolding PassAlike
    stmts_alike [] stand names e d agree = agree
    stmts_alike (stmt ∷ stmts) stand names e d agree =
        subst (λ o. PassAlike StandsIn (pass_stmts f (stmt ∷ stmts) e) (option_map_or (λ w. pass_stmts after stmts (assign stmt.name w d)) o (Stuck stmt.name))) (sym same)
        (by (rhs_value (name_type f stmt.name) e stmt.rhs)
        (λ w. stmts_alike stmts (all_right (OperandStands StandsIn) (operands_of_stmt stmt) (flat_map operands_of_stmt stmts) stand) (λ y mine. names y (inr mine))
        (assign stmt.name w e) (assign stmt.name w d) (agree_assigned StandsIn e d stmt.name w agree)))
      where
        same : rhs_value (name_type after stmt.name) d stmt.rhs ≡ rhs_value (name_type f stmt.name) e stmt.rhs
        same = ap (λ t. rhs_value t d stmt.rhs) (typed stmt.name (names stmt.name (inl refl)))
            ∙ same_value StandsIn e d agree (name_type f stmt.name) stmt.rhs (all_left (OperandStands StandsIn) (operands_of_stmt stmt) (flat_map operands_of_stmt stmts) stand)

        by : (o : Option Word) → ((w : Word) → PassAlike StandsIn (pass_stmts f stmts (assign stmt.name w e)) (pass_stmts after stmts (assign stmt.name w d))) →
            PassAlike StandsIn (option_map_or (λ w. pass_stmts f stmts (assign stmt.name w e)) o (Stuck stmt.name))
            (option_map_or (λ w. pass_stmts after stmts (assign stmt.name w d)) o (Stuck stmt.name))
        by None rest = refl
        by (Some w) rest = rest w

    block_alike : (from : ℕ) (e d : Env) → AgreeOn StandsIn e d → PassAlike StandsIn (pass_block f from block e) (pass_block after from block d)
    unfolding pass_block
    block_alike from e d agree =
        stmts_alike block.stmts stmts_stand (λ y mine. assigned_stands y (member_right y (map phi_name block.phis) (map stmt_name block.stmts) mine))
        (after_phis f from block.phis e) (after_phis after from block.phis d)
        (same_phis f after StandsIn from block.phis e d agree
        (phis_typed block.phis (λ y mine. assigned_stands y (member_left y (map phi_name block.phis) (map stmt_name block.stmts) mine)))
        (phis_stand f StandsIn operands_stand n block found))

  -- ---- runs

  abbrev way : ℕ → ℕ → Env → Place
  way from to env = record { from = from; to = to; env = env }

  abbrev AlikeWith : ℕ → Type 0
  AlikeWith fuel = (from to : ℕ) (e d : Env) → AgreeOn StandsIn e d → run_from after fuel (way from to d) ≡ run_from f fuel (way from to e)

  led_alike : (fuel : ℕ) → AlikeWith fuel → (from : ℕ) (e d : Env) → AgreeOn StandsIn e d → (lead : Lead) →
      outcome_of (run_from after fuel) (step_of_lead from d lead) ≡ outcome_of (run_from f fuel) (step_of_lead from e lead)
  led_alike fuel further from e d agree (To m) = further from m e d agree
  led_alike fuel further from e d agree (Out w) = refl

  passed_alike : (fuel : ℕ) → AlikeWith fuel → (block : Block) → block_of f block.number ≡ Some block → (p q : Passage) → PassAlike StandsIn p q →
      outcome_of (run_from after fuel) (step_of_passage block q) ≡ outcome_of (run_from f fuel) (step_of_passage block p)
  unfolding PassAlike
  passed_alike fuel further block found (On e) (On d) agree =
      ap (λ lead. outcome_of (run_from after fuel) (step_of_lead block.number d lead)) (same_lead StandsIn e d agree block.end (end_stands f StandsIn operands_stand block.number block found))
      ∙ led_alike fuel further block.number e d agree (lead_of e block.end)
  passed_alike fuel further block found (Stuck x) (Stuck y) same = ap (λ z. outcome_of (run_from after fuel) (step_of_passage block (Stuck z))) same
  passed_alike fuel further block found (On e) (Stuck y) none = absurd none
  passed_alike fuel further block found (Stuck x) (On d) none = absurd none

  alike_with : (fuel : ℕ) → AlikeWith fuel
  unfolding step_at block_of trimmed
  alike_with zero from to e d agree = refl
  alike_with (suc fuel) from to e d agree = by (alike_with fuel) (block_of f to) refl
    where
      by : AlikeWith fuel → (o : Option Block) → block_of f to ≡ o →
          outcome_of (run_from after fuel) (option_map_or (step_in after (way from to d)) o (Further (way from to d))) ≡
          outcome_of (run_from f fuel) (option_map_or (step_in f (way from to e)) o (Further (way from to e)))
      by further None found = further from to e d agree
      by further (Some block) found =
          passed_alike fuel further block (found_by_number f to block found) (pass_block f from block e) (pass_block after from block d) (block_alike to block found from e d agree)

  pub trimming_runs_alike : RunAlike f after
  unfolding run_of start_of trimmed
  trimming_runs_alike args fuel = alike_with fuel 0 (entry_of f.blocks) (start_env f args) (start_env after args) (starts_alike args)
