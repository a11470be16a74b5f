use Rattle.std.proofs.Common.{◌≡◌, ◌++◌, take, codes}
use Rattle.std.specs.List.{flat_map}
use Rattle.gim_printer.specs.Printing.{phi_argument_text}
use Rattle.gim_printer.proofs.statements.push_phi_arguments.Given as goal

abbrev pub invariant-loop-argument : goal.invariant-loop-argument
invariant-loop-argument l = l.out ≡ l.initial.out ++ flat_map (λ argument. codes ", " ++ phi_argument_text l.function argument) (take l.argument-index l.rest)
