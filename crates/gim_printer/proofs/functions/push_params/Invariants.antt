use Rattle.std.proofs.Common.{◌≡◌, ◌++◌, take, codes}
use Rattle.std.specs.List.{flat_map}
use Rattle.gim_printer.specs.Printing.{declared_text}
use Rattle.gim_printer.proofs.functions.push_params.Given as goal

abbrev pub invariant-loop-param : goal.invariant-loop-param
invariant-loop-param l = l.out ≡ l.initial.out ++ flat_map (λ param. codes ", " ++ declared_text param) (take l.param-index l.rest)
