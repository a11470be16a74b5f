use Rattle.std.proofs.Common.{◌≡◌, map, drop}
use Rattle.gim_ast.specs.Functions.{phi_name}
use Rattle.gim_changes.specs.LastUnused.{last_unused_of}
use Rattle.gim_tables.proofs.removal.last_phi.Given as goal

abbrev pub invariant-loop-phi : goal.invariant-loop-phi
invariant-loop-phi l =
    last_unused_of l.function l.found (map phi_name (drop l.phi-index l.phis))
    ≡ last_unused_of l.function l.initial.found (map phi_name l.phis)
