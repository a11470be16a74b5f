use Rattle.std.proofs.Common.{◌≡◌, drop}
use Rattle.std.specs.List.{flat_map}
use Rattle.first_rewriting.specs.Choices.{first_found, stmt_subjects, EachFolds}
use Rattle.first_rewriting.proofs.choice.next_stmt.Given as goal

abbrev pub invariant-loop-stmt : goal.invariant-loop-stmt
invariant-loop-stmt l = record {
  found : first_found l.rows l.function (flat_map stmt_subjects (drop l.stmt-index l.stmts))
      ≡ first_found l.rows l.function (flat_map stmt_subjects l.stmts);
  typed : EachFolds l.function (flat_map stmt_subjects (drop l.stmt-index l.stmts));
}
