use Rattle.std.proofs.Common.{◌≡◌, take}
use Rattle.gim_ast.proofs.copying.copied_stmts.Given as goal

abbrev pub invariant-loop-stmt : goal.invariant-loop-stmt
invariant-loop-stmt l = l.copied ≡ take l.stmt-index l.stmts
