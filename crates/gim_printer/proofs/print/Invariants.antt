use Rattle.std.proofs.Common.{◌≡◌, ◌++◌, [], take}
use Rattle.std.specs.List.{flat_map}
use Rattle.gim_printer.specs.Printing.{line, function_text}
use Rattle.gim_printer.proofs.print.Given as goal

abbrev pub invariant-loop-function : goal.invariant-loop-function
invariant-loop-function l = l.out ≡ l.initial.out ++ flat_map (λ function. line [] ++ function_text function) (take l.function-index l.rest)
