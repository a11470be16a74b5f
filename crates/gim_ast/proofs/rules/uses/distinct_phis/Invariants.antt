use Rattle.std.proofs.Common.{◌≡◌, length}
use Rattle.gim_ast.specs.RulesByPart.{distinct_phis}
use Rattle.gim_ast.proofs.rules.uses.distinct_phis.Given as goal

abbrev pub invariant-loop-rest : goal.invariant-loop-rest
invariant-loop-rest l = distinct_phis l.rest l.stmts l.after ≡ distinct_phis l.phis l.stmts l.after

abbrev pub decreases-loop-rest : goal.decreases-loop-rest
decreases-loop-rest l = length l.rest
