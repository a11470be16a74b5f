use Rattle.std.proofs.Common.{◌≡◌, true, take}
use Rattle.gim_ast.specs.WellFormed.{same_text, all_distinct}
use Rattle.gim_shape.specs.Tables.{HasTexts}
use Rattle.gim_shape.specs.Phis.{named_by_args}
use Rattle.gim_shape.proofs.phis.distinct_numbers.Given as goal

abbrev pub invariant-loop-arg : goal.invariant-loop-arg
invariant-loop-arg l = record {
  distinct : all_distinct same_text (named_by_args l.source (take l.arg-index l.args)) ≡ true;
  known : HasTexts l.set (named_by_args l.source (take l.arg-index l.args));
}
