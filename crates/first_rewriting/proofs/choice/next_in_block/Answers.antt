use Rattle.std.proofs.Common.{sym, subst, ap}
use Rattle.std.specs.List.{flat_map}
use Rattle.first_patterns.specs.Subjects.{subjects_of_end}
use Rattle.first_rewriting.specs.Choices.{EachFolds, stmt_subjects}
use Rattle.first_rewriting.proofs.Choosing.{folds_left, folds_right, block_as_lists}
use Rattle.first_rewriting.proofs.choice.next_in_block.Goals as goal

pub next_stmt-requires-clause-typed : goal.next_stmt-requires-clause-typed
next_stmt-requires-clause-typed c =
    let block = c.args.block.now in
    let f = c.args.function.now in
    let parts = subst (EachFolds f) (sym (block_as_lists block)) c.requires.typed in
    subst (EachFolds f) (ap (flat_map stmt_subjects) (sym c.as_slice.ensures))
    (folds_left f (flat_map stmt_subjects block.stmts) (subjects_of_end block.number block.end) parts)

pub end_choice-requires-clause-typed : goal.end_choice-requires-clause-typed
end_choice-requires-clause-typed c =
    let block = c.args.block.now in
    let f = c.args.function.now in
    let parts = subst (EachFolds f) (sym (block_as_lists block)) c.requires.typed in
    folds_right f (flat_map stmt_subjects block.stmts) (subjects_of_end block.number block.end) parts
