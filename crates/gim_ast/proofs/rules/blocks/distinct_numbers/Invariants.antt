use Rattle.std.proofs.Common.{◌≡◌, length}
use Rattle.gim_ast.specs.RulesByPart.{distinct_numbers}
use Rattle.gim_ast.proofs.rules.blocks.distinct_numbers.Given as goal

abbrev pub invariant-loop-rest : goal.invariant-loop-rest
invariant-loop-rest l = distinct_numbers l.rest ≡ distinct_numbers l.blocks

abbrev pub decreases-loop-rest : goal.decreases-loop-rest
decreases-loop-rest l = length l.rest
