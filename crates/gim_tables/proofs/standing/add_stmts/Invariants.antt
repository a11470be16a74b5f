use Rattle.std.proofs.Common.{◌≡◌, ℕ, eqb, ◌||◌, map, drop}
use Rattle.std.specs.List.{list_any}
use Rattle.gim_ast.specs.Functions.{stmt_name}
use Rattle.gim_tables.specs.Told.{has}
use Rattle.gim_tables.proofs.standing.add_stmts.Given as goal

-- the names so far, and the rest, are all
abbrev pub invariant-loop-stmt : goal.invariant-loop-stmt
invariant-loop-stmt l = (q : ℕ) →
    has l.table q || list_any (λ y. eqb y q) (map stmt_name (drop l.stmt-index l.stmts))
    ≡ has l.fn.table q || list_any (λ y. eqb y q) (map stmt_name l.stmts)
