-- What the loop over arguments keeps.
use Rattle.std.proofs.Common.{◌≡◌, map, drop}
use Rattle.pd_forms.specs.Trees.{pattern_of, operands}
use Rattle.pd_pattern_names.specs.Uses.{stands_for_free}
use Rattle.pd_pattern_names.proofs.uses.stands_for_free.Given as goal

abbrev pub invariant-loop-place : goal.invariant-loop-place
invariant-loop-place l =
    stands_for_free l.source l.known.cases l.parameter l.callee 0 (operands (map pattern_of l.arguments))
    ≡ stands_for_free l.source l.known.cases l.parameter l.callee l.place (operands (map pattern_of (drop l.place l.arguments)))
