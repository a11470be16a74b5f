-- What the loops over operands and arguments keep.
use Rattle.std.proofs.Common.{◌≡◌, map, drop}
use Rattle.pd_forms.specs.Trees.{pattern_of, operands}
use Rattle.pd_pattern_names.specs.Patterns.{operands_fault, arguments_fault}
use Rattle.pd_pattern_names.proofs.patterns.+patterns.Given as goal

abbrev pub invariant-check_operands-loop-pattern : goal.invariant-check_operands-loop-pattern
invariant-check_operands-loop-pattern l =
    operands_fault l.source l.known l.own (operands (map pattern_of l.patterns)) ≡ operands_fault l.source l.known l.own (operands (map pattern_of (drop l.pattern-index l.patterns)))

abbrev pub invariant-check_arguments-loop-place : goal.invariant-check_arguments-loop-place
invariant-check_arguments-loop-place l =
    arguments_fault l.source l.known l.own l.callee 0 (operands (map pattern_of l.arguments))
    ≡ arguments_fault l.source l.known l.own l.callee l.place (operands (map pattern_of (drop l.place l.arguments)))
