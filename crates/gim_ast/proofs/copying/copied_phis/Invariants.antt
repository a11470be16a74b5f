use Rattle.std.proofs.Common.{◌≡◌, take}
use Rattle.gim_ast.proofs.copying.copied_phis.Given as goal

abbrev pub invariant-loop-phi : goal.invariant-loop-phi
invariant-loop-phi l = l.copied ≡ take l.phi-index l.phis
