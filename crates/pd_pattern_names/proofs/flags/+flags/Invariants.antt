-- What the loop over patterns keeps.
use Rattle.std.proofs.Common.{◌≡◌, map, drop}
use Rattle.pd_forms.specs.Trees.{pattern_of, operands}
use Rattle.pd_pattern_names.specs.Flags.{hold_capture}
use Rattle.pd_pattern_names.proofs.flags.+flags.Given as goal

abbrev pub invariant-hold_capture-loop-pattern : goal.invariant-hold_capture-loop-pattern
invariant-hold_capture-loop-pattern l =
    hold_capture l.source l.known l.own (operands (map pattern_of l.patterns)) ≡ hold_capture l.source l.known l.own (operands (map pattern_of (drop l.pattern-index l.patterns)))
