use Rattle.std.proofs.Common.{◌≡◌, drop}
use Rattle.gim_ast.specs.RulesByPart.{count_in_stmts}
use Rattle.gim_ast.proofs.rules.bounds.count_in_stmts.Given as goal

abbrev pub invariant-loop-stmt : goal.invariant-loop-stmt
invariant-loop-stmt l = count_in_stmts l.total (drop l.stmt-index l.stmts) ≡ count_in_stmts l.count l.stmts
