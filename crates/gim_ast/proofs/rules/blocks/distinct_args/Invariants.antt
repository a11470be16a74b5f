use Rattle.std.proofs.Common.{◌≡◌, length}
use Rattle.gim_ast.specs.RulesByPart.{distinct_args}
use Rattle.gim_ast.proofs.rules.blocks.distinct_args.Given as goal

abbrev pub invariant-loop-rest : goal.invariant-loop-rest
invariant-loop-rest l = distinct_args l.rest ≡ distinct_args l.args

abbrev pub decreases-loop-rest : goal.decreases-loop-rest
decreases-loop-rest l = length l.rest
