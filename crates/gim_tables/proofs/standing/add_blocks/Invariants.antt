use Rattle.std.proofs.Common.{◌≡◌, ℕ, eqb, ◌||◌, drop}
use Rattle.std.specs.List.{flat_map, list_any}
use Rattle.gim_ast.specs.Functions.{assigned_in}
use Rattle.gim_tables.specs.Told.{has}
use Rattle.gim_tables.proofs.standing.add_blocks.Given as goal

-- the names so far, and the rest, are all
abbrev pub invariant-loop-block : goal.invariant-loop-block
invariant-loop-block l = (q : ℕ) →
    has l.table q || list_any (λ y. eqb y q) (flat_map assigned_in (drop l.block-index l.blocks))
    ≡ has l.fn.table q || list_any (λ y. eqb y q) (flat_map assigned_in l.blocks)
