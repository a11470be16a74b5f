use Rattle.std.proofs.Common.{◌≡◌, ◌+◌, ◌++◌, map, drop}
use Rattle.gim_ast.specs.Readable.{uses_in_phis}
use Rattle.gim_ssa.specs.Uses.{seen}
use Rattle.gim_ssa.proofs.uses.push_phis.Given as goal

abbrev pub invariant-loop-phi : goal.invariant-loop-phi
invariant-loop-phi l = record {
  counted : l.item ≡ l.fn.item + l.phi-index;
  uses : l.uses.items ++ map seen (uses_in_phis l.block l.item (drop l.phi-index l.phis)) ≡ l.fn.uses.items ++ map seen (uses_in_phis l.block l.fn.item l.phis);
}
