use Rattle.std.proofs.Common.{arith, sym, ◌∙◌}
use Rattle.first_rewriting.specs.Choices.{found_of, stmt_subjects}
use Rattle.first_rewriting.proofs.Choosing.{passed, taken, folds_here, folds_after, none_found, some_found}
use Rattle.first_rewriting.proofs.choice.next_stmt.Goals as goal

pub stmt_choice-requires-clause-typed : goal.stmt_choice-requires-clause-typed
stmt_choice-requires-clause-typed c =
    folds_here stmt_subjects c.args.rows.now c.args.function.now c.args.stmts.now c.loop-stmt.stmt-index
    c.stmt-item.result (omega arith) c.stmt-item.is c.loop-stmt.invariant.typed

pub returns-in-Some : goal.returns-in-Some
returns-in-Some c =
    let here = some_found found_of _ _ _ c.in-Some.is c.stmt_choice.ensures in
    sym (taken stmt_subjects c.args.rows.now c.args.function.now c.args.stmts.now c.loop-stmt.stmt-index
    c.stmt-item.result _ (omega arith) c.stmt-item.is here) ∙ c.loop-stmt.invariant.found

pub loop-stmt-preserved : goal.loop-stmt-preserved
loop-stmt-preserved c =
    let nothing = none_found found_of _ _ c.in_default.is c.stmt_choice.ensures in
    record {
      found = sym (passed stmt_subjects c.args.rows.now c.args.function.now c.args.stmts.now c.loop-stmt.stmt-index
          c.stmt-item.result (omega arith) c.stmt-item.is nothing) ∙ c.loop-stmt.invariant.found;
      typed = folds_after stmt_subjects c.args.rows.now c.args.function.now c.args.stmts.now c.loop-stmt.stmt-index
          c.stmt-item.result (omega arith) c.stmt-item.is c.loop-stmt.invariant.typed;
    }
