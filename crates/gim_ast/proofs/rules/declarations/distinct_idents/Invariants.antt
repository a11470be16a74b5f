use Rattle.std.proofs.Common.{◌≡◌, length}
use Rattle.gim_ast.specs.RulesByPart.{distinct_idents}
use Rattle.gim_ast.proofs.rules.declarations.distinct_idents.Given as goal

abbrev pub invariant-loop-rest : goal.invariant-loop-rest
invariant-loop-rest l = distinct_idents l.rest l.after ≡ distinct_idents l.decls l.after

abbrev pub decreases-loop-rest : goal.decreases-loop-rest
decreases-loop-rest l = length l.rest
