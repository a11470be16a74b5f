use Rattle.std.proofs.Common.{arith, sym, ◌∙◌}
use Rattle.first_patterns.specs.Subjects.{subjects_of_block}
use Rattle.first_rewriting.specs.Choices.{found_of}
use Rattle.first_rewriting.proofs.Choosing.{passed, taken, folds_here, folds_after, none_found, some_found}
use Rattle.first_rewriting.proofs.choice.next_among.Goals as goal

pub next_in_block-requires-clause-typed : goal.next_in_block-requires-clause-typed
next_in_block-requires-clause-typed c =
    folds_here subjects_of_block c.args.rows.now c.args.function.now c.args.blocks.now c.loop-block.block-index
    c.block-item.result (omega arith) c.block-item.is c.loop-block.invariant.typed

pub returns-in-Some : goal.returns-in-Some
returns-in-Some c =
    let here = some_found found_of _ _ _ c.in-Some.is c.next_in_block.ensures in
    sym (taken subjects_of_block c.args.rows.now c.args.function.now c.args.blocks.now c.loop-block.block-index
    c.block-item.result _ (omega arith) c.block-item.is here) ∙ c.loop-block.invariant.found

pub loop-block-preserved : goal.loop-block-preserved
loop-block-preserved c =
    let nothing = none_found found_of _ _ c.in_default.is c.next_in_block.ensures in
    record {
      found = sym (passed subjects_of_block c.args.rows.now c.args.function.now c.args.blocks.now
          c.loop-block.block-index c.block-item.result (omega arith) c.block-item.is nothing)
          ∙ c.loop-block.invariant.found;
      typed = folds_after subjects_of_block c.args.rows.now c.args.function.now c.args.blocks.now
          c.loop-block.block-index c.block-item.result (omega arith) c.block-item.is c.loop-block.invariant.typed;
    }
