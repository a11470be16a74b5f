-- What the loop over patterns keeps.
use Rattle.std.proofs.Common.{◌≡◌, ◌++◌, map, drop}
use Rattle.pd_forms.specs.Trees.{pattern_of, operands}
use Rattle.pd_pattern_names.specs.Uses.{uses_among}
use Rattle.pd_pattern_names.proofs.uses.+uses.Given as goal

abbrev pub invariant-note_all-loop-pattern : goal.invariant-note_all-loop-pattern
invariant-note_all-loop-pattern l =
    l.noted ++ uses_among l.source l.known l.own (operands (map pattern_of (drop l.pattern-index l.patterns)))
    ≡ l.initial.noted ++ uses_among l.source l.known l.own (operands (map pattern_of l.patterns))
