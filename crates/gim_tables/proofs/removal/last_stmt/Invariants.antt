use Rattle.std.proofs.Common.{◌≡◌, map, drop}
use Rattle.gim_ast.specs.Functions.{stmt_name}
use Rattle.gim_changes.specs.LastUnused.{last_unused_of}
use Rattle.gim_tables.proofs.removal.last_stmt.Given as goal

abbrev pub invariant-loop-stmt : goal.invariant-loop-stmt
invariant-loop-stmt l =
    last_unused_of l.function l.found (map stmt_name (drop l.stmt-index l.stmts))
    ≡ last_unused_of l.function l.initial.found (map stmt_name l.stmts)
