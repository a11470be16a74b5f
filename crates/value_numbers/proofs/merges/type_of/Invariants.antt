use Rattle.std.proofs.Common.{◌≡◌, drop, eqb}
use Rattle.gim_ast.specs.declared.function.NameRow.{NameRow}
use Rattle.gim_ast.specs.Functions.{first_where}
use Rattle.value_numbers.proofs.merges.type_of.Given as goal

-- the row isn't among those before
abbrev pub invariant-loop-row : goal.invariant-loop-row
invariant-loop-row l = first_where (λ (row : NameRow). eqb row.version l.name) (drop l.row-index l.function.names) ≡ first_where (λ (row : NameRow). eqb row.version l.name) l.function.names
