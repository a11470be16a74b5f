-- What the loop over patterns keeps.
use Rattle.std.proofs.Common.{◌≡◌, map, drop}
use Rattle.pd_forms.specs.Trees.{pattern_of, operands}
use Rattle.pd_pattern_names.specs.Uses.{is_free_among}
use Rattle.pd_pattern_names.proofs.uses.+freedom.Given as goal

abbrev pub invariant-is_free_among-loop-pattern : goal.invariant-is_free_among-loop-pattern
invariant-is_free_among-loop-pattern l =
    is_free_among l.source l.known l.own l.parameter (operands (map pattern_of l.patterns))
    ≡ is_free_among l.source l.known l.own l.parameter (operands (map pattern_of (drop l.pattern-index l.patterns)))
