use Rattle.std.proofs.Common.{◌≡◌, ℕ, drop, nat_eq}
use Rattle.std.specs.HashMap.{get}
use Rattle.std.specs.Option.{option_map}
use Rattle.std.specs.Prelude.{◌==◌}
use Rattle.gim_ast.specs.declared.function.NameRow.{NameRow}
use Rattle.gim_ast.specs.Functions.{first_where}
use Rattle.gim_ssa.proofs.places.Initials.new.Given as goal

-- the table has what the rows that were looked at say, from the end
abbrev pub invariant-loop-at : goal.invariant-loop-at
invariant-loop-at l = (q : ℕ) →
    get nat_eq l.table q ≡ option_map (λ (row : NameRow). row.initial) (first_where (λ (row : NameRow). row.version == q) (drop l.at l.rows))
