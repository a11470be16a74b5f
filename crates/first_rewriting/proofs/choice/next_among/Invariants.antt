use Rattle.std.proofs.Common.{◌≡◌, drop}
use Rattle.std.specs.List.{flat_map}
use Rattle.first_patterns.specs.Subjects.{subjects_of_block}
use Rattle.first_rewriting.specs.Choices.{first_found, EachFolds}
use Rattle.first_rewriting.proofs.choice.next_among.Given as goal

abbrev pub invariant-loop-block : goal.invariant-loop-block
invariant-loop-block l = record {
  found : first_found l.rows l.function (flat_map subjects_of_block (drop l.block-index l.blocks))
      ≡ first_found l.rows l.function (flat_map subjects_of_block l.blocks);
  typed : EachFolds l.function (flat_map subjects_of_block (drop l.block-index l.blocks));
}
