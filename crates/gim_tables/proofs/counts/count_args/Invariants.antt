use Rattle.std.proofs.Common.{◌≡◌, ℕ, ◌+◌, min, map, drop}
use Rattle.std.specs.List.{count_by}
use Rattle.gim_ast.specs.Functions.{is_name}
use Rattle.gim_tables.specs.Told.{told, most, second}
use Rattle.gim_tables.proofs.counts.count_args.Given as goal

-- what was counted so far, and the rest, are all
abbrev pub invariant-loop-arg : goal.invariant-loop-arg
invariant-loop-arg l = (q : ℕ) →
    min (told l.table q + count_by (is_name q) (map second (drop l.arg-index l.args))) most
    ≡ min (told l.fn.table q + count_by (is_name q) (map second l.args)) most
