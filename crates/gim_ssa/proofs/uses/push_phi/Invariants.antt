use Rattle.std.proofs.Common.{◌≡◌, ◌++◌, map, drop}
use Rattle.gim_ast.specs.Readable.{uses_in_phi}
use Rattle.gim_ssa.specs.Uses.{seen}
use Rattle.gim_ssa.proofs.uses.push_phi.Given as goal

abbrev pub invariant-loop-arg : goal.invariant-loop-arg
invariant-loop-arg l =
    l.uses.items ++ map seen (uses_in_phi l.block l.item (record l.phi { args = drop l.arg-index l.phi.args }))
    ≡ l.fn.uses.items ++ map seen (uses_in_phi l.block l.item l.phi)
