use Rattle.std.proofs.Common.{◌≡◌, drop}
use Rattle.gim_ast.specs.RulesByPart.{count_in_phis}
use Rattle.gim_ast.proofs.rules.bounds.count_in_phis.Given as goal

abbrev pub invariant-loop-phi : goal.invariant-loop-phi
invariant-loop-phi l = count_in_phis l.total (drop l.phi-index l.phis) ≡ count_in_phis l.count l.phis
