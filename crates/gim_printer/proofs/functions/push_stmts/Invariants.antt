use Rattle.std.proofs.Common.{◌≡◌, ◌++◌, take}
use Rattle.std.specs.List.{flat_map}
use Rattle.gim_printer.specs.Printing.{stmt_line}
use Rattle.gim_printer.proofs.functions.push_stmts.Given as goal

abbrev pub invariant-loop-stmt : goal.invariant-loop-stmt
invariant-loop-stmt l = l.out ≡ l.initial.out ++ flat_map (stmt_line l.function) (take l.stmt-index l.stmts)
