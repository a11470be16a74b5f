use Rattle.std.proofs.Common.{◌≡◌, drop}
use Rattle.result_build.specs.Names.{captured_from}
use Rattle.result_build.proofs.names.operand_of.Given as goal

abbrev pub invariant-loop-slot : goal.invariant-loop-slot
invariant-loop-slot l =
    captured_from l.caps l.slot (drop l.slot l.captures) l.name ≡ captured_from l.caps 0 l.captures l.name
