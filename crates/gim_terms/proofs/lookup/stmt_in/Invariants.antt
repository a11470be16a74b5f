use Rattle.std.proofs.Common.{◌≡◌, drop}
use Rattle.gim_ast.specs.Functions.{first_where}
use Rattle.gim_terms.specs.Lookups.{assigns}
use Rattle.gim_terms.proofs.lookup.stmt_in.Given as goal

abbrev pub invariant-loop-stmt : goal.invariant-loop-stmt
invariant-loop-stmt l = first_where (assigns l.version) (drop l.stmt-index l.stmts) ≡ first_where (assigns l.version) l.stmts
