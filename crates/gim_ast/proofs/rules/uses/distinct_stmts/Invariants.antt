use Rattle.std.proofs.Common.{◌≡◌, length}
use Rattle.gim_ast.specs.RulesByPart.{distinct_stmts}
use Rattle.gim_ast.proofs.rules.uses.distinct_stmts.Given as goal

abbrev pub invariant-loop-rest : goal.invariant-loop-rest
invariant-loop-rest l = distinct_stmts l.rest l.after ≡ distinct_stmts l.stmts l.after

abbrev pub decreases-loop-rest : goal.decreases-loop-rest
decreases-loop-rest l = length l.rest
