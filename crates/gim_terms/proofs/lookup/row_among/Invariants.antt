use Rattle.std.proofs.Common.{◌≡◌, drop}
use Rattle.gim_ast.specs.Functions.{first_where}
use Rattle.gim_terms.specs.Lookups.{is_row_of}
use Rattle.gim_terms.proofs.lookup.row_among.Given as goal

abbrev pub invariant-loop-row : goal.invariant-loop-row
invariant-loop-row l = first_where (is_row_of l.version) (drop l.row-index l.rows) ≡ first_where (is_row_of l.version) l.rows
