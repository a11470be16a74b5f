use Rattle.std.proofs.Common.{◌≡◌, drop}
use Rattle.gim_ast.specs.declared.function.Rhs.TheVariants.{Op}
use Rattle.first_patterns.specs.Matching.{found_from}
use Rattle.first_rewriting.proofs.matching.first_row.Given as goal

abbrev pub invariant-loop-i : goal.invariant-loop-i
invariant-loop-i l = found_from l.i (drop l.i l.rows) (Op l.code l.operands) ≡ found_from 0 l.rows (Op l.code l.operands)
