-- A new statement keeps every defined run where it has a value: nobody reads its name.
use Rattle.std.proofs.Common.{◌≡◌, ℕ, Bool, true, false, cond, eqb, Option, Some, None, List, []}
use Rattle.std.proofs.Common.{◌∷◌, ◌++◌, length, insert, slice_get, is_some, refl, sym, ap, subst}
use Rattle.std.proofs.Common.{◌∙◌}
use Rattle.std.specs.Prelude.{IsSome}
use Rattle.std.specs.List.{list_all, AllByRecursion}
use Rattle.std.proofs.lemmas.Bool.{and_parts, both_ways, eqb-true}
use Rattle.std.proofs.lemmas.Option.{same_Some}
use Rattle.pm_wide.specs.Types.{Word, same_type}
use Rattle.pm_wide.specs.declared.operand.Operand.{Operand}
use Rattle.gim_ast.specs.declared.function.Function.{Function}
use Rattle.gim_ast.specs.declared.function.Block.{Block}
use Rattle.gim_ast.specs.declared.function.Decl.{Decl}
use Rattle.gim_ast.specs.declared.function.Phi.{Phi}
use Rattle.gim_ast.specs.declared.function.Stmt.{Stmt}
use Rattle.gim_ast.specs.declared.function.NameRow.{NameRow}
use Rattle.gim_ast.specs.Functions.{operands_of, operands_of_phi, operands_of_stmt, block_of}
use Rattle.gim_ast.specs.WellFormed.{IsWellFormed, type_of, operand_holds, phi_fits, stmt_fits}
use Rattle.gim_ast.specs.WellFormed.{rhs_fits}
use Rattle.gim_ast.specs.Runs.{Env, assign, name_type, after_phis, rhs_value, pass_stmts, On}
use Rattle.gim_ast.specs.Runs.{lead_of}
use Rattle.gim_run.specs.Blocks.{phi_holds}
use Rattle.gim_run.proofs.PhiLemmas.{block_phis}
use Rattle.gim_changes.specs.Insertion.{insert_in_block, with_stmt}
use Rattle.gim_meaning.specs.ReachedPoints.{Inside, Reaches, pass, Lies}
use Rattle.gim_meaning.specs.KeptRuns.{AreArgumentWords, KeepsDefinedRuns}
use Rattle.gim_meaning.specs.SameReading.{GoesOn, HasValueThere}
use Rattle.gim_meaning.proofs.Agreement.{AgreeOn, AllStand, same_value, same_lead}
use Rattle.gim_meaning.proofs.BlockOfPlace.{changed_in, changed_by_number, inserted, block_at}
use Rattle.gim_meaning.proofs.BlockOfPlace.{blocks_apart}
use Rattle.gim_meaning.proofs.NewRows.{IsNewStmt, has_row_other, holding_stand, all_stand_aside}
use Rattle.gim_meaning.proofs.NewRows.{typed_other}
use Rattle.gim_meaning.proofs.NewRows.{typed_new, starts_other}
use Rattle.gim_meaning.proofs.Lockstep.{PassesAlike, GoesAlike, alike_keeps_runs, passes_stmt}
use Rattle.gim_meaning.proofs.OperandsStand.{phis_stand, end_stands, TypedAlike, PhiTyped}
use Rattle.gim_meaning.proofs.OperandsStand.{same_phis}
use Rattle.gim_meaning.proofs.ReadableValues.{IsOther, others_agree}
use Rattle.gim_meaning.proofs.Reached.{lies, passed_first}
use Rattle.gim_meaning.proofs.TypedWords.{block_is_right, stmt_is_right}
use Rattle.gim_meaning.proofs.UnchangedItems.{same_step, same_rest, left_by_choice}

-- ---- insertion

module _ (f : Function) (well : IsWellFormed f) (place : ℕ) (home : Block)
    (at : slice_get f.blocks place ≡ Some home) (front rest : List Stmt)
    (split : home.stmts ≡ front ++ rest)
    (stmt : Stmt) (decl : Decl) (is_new : IsNewStmt f stmt)
    (value : HasValueThere f home rest decl.ty stmt.rhs) where
  abbrev g : Function
  g = with_stmt place (length front) stmt decl f

  abbrev changed : Block → Block
  changed = changed_in (insert_in_block (length front) stmt) home.number

  abbrev Others : ℕ → Type 0
  Others = IsOther stmt.name

  stmts_typed : (block : Block) (s : Stmt) (stmts : List Stmt) → Lies f block (s ∷ stmts) →
      TypedAlike f g s.name
  stmts_typed block s stmts there =
      let fits = (and_parts (stmt_fits f s) (list_all (operand_holds f) (operands_of_stmt s))
      (stmt_is_right f well block s stmts there)).0 in
      typed_other f place (length front) stmt decl s.name
      (has_row_other f stmt.name is_new.new
      (λ (row : NameRow). rhs_fits row.ty s.rhs) s.name fits)

  phis_typed : (phis : List Phi) → list_all (phi_holds f) phis ≡ true →
      AllByRecursion (PhiTyped f g) phis
  phis_typed [] h = tt
  phis_typed (phi ∷ phis) h =
      let parts = and_parts (phi_holds f phi) (list_all (phi_holds f) phis) h in
      let fits = (and_parts (phi_fits f phi)
      (list_all (operand_holds f) (operands_of_phi phi)) parts.0).0 in (
        typed_other f place (length front) stmt decl phi.name
            (has_row_other f stmt.name is_new.new
            (λ (row : NameRow). list_all (λ (arg : ℕ × Operand). same_type (type_of arg.1) row.ty)
            phi.args) phi.name fits),
        phis_typed phis parts.1,
      )

  stand : AllStand Others (operands_of f)
  stand = all_stand_aside f stmt.name is_new.new well

  left_of_block : {X : Type 0} (see : Block → X) (block : Block) →
      see (insert_in_block (length front) stmt block) ≡ see block → see (changed block) ≡ see block
  left_of_block see block same = left_by_choice see (eqb block.number home.number)
      (insert_in_block (length front) stmt block) block same

  module _ (args : List Word) (words : AreArgumentWords f args) where
    -- what passes goes on
    goes_on : (stmts : List Stmt) (e after : Env) → pass_stmts f stmts e ≡ On after →
        GoesOn f stmts e
    goes_on [] e after is = tt
    goes_on (s ∷ stmts) e after is = ap is_some (passed_first f s stmts e after is).1

    -- at the place
    passes_new : (e after d : Env) → Reaches f args (Inside home rest e) →
        pass_stmts f rest e ≡ On after → AgreeOn Others e d →
        PassesAlike g Others after (stmt ∷ rest) d
    passes_new e after d reached is agree =
        by (rhs_value decl.ty e stmt.rhs) refl
        (value args words e reached (goes_on rest e after is))
      where
        by : (found : Option Word) → rhs_value decl.ty e stmt.rhs ≡ found → IsSome found →
            PassesAlike g Others after (stmt ∷ rest) d
        by None none some = absurd (both_ways false refl some)
        by (Some w) has some =
            let given : rhs_value (name_type g stmt.name) d stmt.rhs ≡ Some w =
            ap (λ t. rhs_value t d stmt.rhs) (typed_new f place (length front) stmt decl is_new.new)
            ∙ same_value Others e d agree decl.ty stmt.rhs
            (holding_stand f stmt.name is_new.new (operands_of_stmt stmt) is_new.reads) ∙ has in
            let after_new : AgreeOn Others e (assign stmt.name w d) =
            λ y other. others_agree d stmt.name w y other ∙ agree y other in
            let passed = same_rest f g Others stand stmts_typed args home rest e after
            (assign stmt.name w d) reached is after_new in
            (passed.0, passes_stmt g stmt rest d w given ∙ passed.1, passed.2)

    -- from before the place
    passes_up_to : (before : List Stmt) (e after d : Env) →
        Reaches f args (Inside home (before ++ rest) e) →
        pass_stmts f (before ++ rest) e ≡ On after → AgreeOn Others e d →
        PassesAlike g Others after (before ++ stmt ∷ rest) d
    passes_up_to [] e after d reached is agree = passes_new e after d reached is agree
    passes_up_to (s ∷ before) e after d reached is agree =
        let passed = passed_first f s (before ++ rest) e after is in
        let stepped = same_step f g Others stand stmts_typed args home s (before ++ rest)
        (before ++ stmt ∷ rest) e d passed.0 reached agree passed.1 in
        let more = passes_up_to before (assign s.name passed.0 e) after stepped.0
        (pass home s (before ++ rest) e passed.0 passed.1 reached) passed.2 stepped.2 in
        (more.0, stepped.1 ∙ more.1, more.2)

    home_is : (block : Block) → block_of f block.number ≡ Some block → block.number ≡ home.number →
        block ≡ home
    home_is block found number = same_Some block home
        (sym found ∙ ap (block_of f) number ∙ block_at f well place home at)

    passes_block : (block : Block) (e after d : Env) → Reaches f args (Inside block block.stmts e) →
        pass_stmts f block.stmts e ≡ On after → AgreeOn Others e d →
        PassesAlike g Others after (changed block).stmts d
    passes_block block e after d reached is agree = by (eqb block.number home.number) refl
      where
        in_home : block ≡ home → PassesAlike g Others after
            (insert block.stmts (length front) stmt) d
        in_home same =
            let split_here : block.stmts ≡ front ++ rest = ap (λ (b : Block). b.stmts) same
            ∙ split in
            let reached_home : Reaches f args (Inside home (front ++ rest) e) =
            subst (λ (b : Block). Reaches f args (Inside b (front ++ rest) e)) same
            (subst (λ ss. Reaches f args (Inside block ss e)) split_here reached) in
            subst (λ ss. PassesAlike g Others after (insert ss (length front) stmt) d)
            (sym split_here)
            (subst (λ ss. PassesAlike g Others after ss d) (sym (inserted front rest stmt))
            (passes_up_to front e after d reached_home
            (subst (λ ss. pass_stmts f ss e ≡ On after) split_here is) agree))

        by : (b : Bool) → eqb block.number home.number ≡ b →
            PassesAlike g Others after (cond b
            (insert_in_block (length front) stmt block) block).stmts d
        by true same = in_home (home_is block (lies reached).found
            (eqb-true block.number home.number same))
        by false other = same_rest f g Others stand stmts_typed args block block.stmts e after d
            reached is agree

    goes_with_stmt : GoesAlike f g changed Others args
    goes_with_stmt = record {
      begins = starts_other f place (length front) stmt decl args;
      phis = λ way block d reached found agree.
          subst (λ ps. AgreeOn Others (after_phis f way.from block.phis way.env)
          (after_phis g way.from ps d)) (sym (left_of_block (λ (b : Block). b.phis) block refl))
          (same_phis f g Others way.from block.phis way.env d agree
          (phis_typed block.phis (block_phis f block
          (block_is_right f well way.to block found)))
          (phis_stand f Others stand way.to block found));
      stmts = passes_block;
      ends = λ block e d reached agree.
          ap (lead_of d) (left_of_block (λ (b : Block). b.end) block refl)
          ∙ same_lead Others e d agree block.end
          (end_stands f Others stand block.number block (lies reached).found);
    }

  pub insertion_keeps_runs : KeepsDefinedRuns f g
  unfolding with_stmt
  insertion_keeps_runs =
      alike_keeps_runs f g changed (λ block. left_of_block (λ (b : Block). b.number) block refl)
      (changed_by_number (insert_in_block (length front) stmt) f.blocks place home
      (blocks_apart f well) at)
      Others refl goes_with_stmt
