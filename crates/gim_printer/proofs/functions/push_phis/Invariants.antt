use Rattle.std.proofs.Common.{◌≡◌, ◌++◌, take}
use Rattle.std.specs.List.{flat_map}
use Rattle.gim_printer.specs.Printing.{phi_line}
use Rattle.gim_printer.proofs.functions.push_phis.Given as goal

abbrev pub invariant-loop-phi : goal.invariant-loop-phi
invariant-loop-phi l = l.out ≡ l.initial.out ++ flat_map (phi_line l.function) (take l.phi-index l.phis)
