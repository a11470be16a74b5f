use Rattle.std.proofs.Common.{◌≡◌, None, drop}
use Rattle.std.specs.List.{flat_map}
use Rattle.gim_ast.specs.Functions.{assigned_in}
use Rattle.gim_changes.specs.LastUnused.{last_unused_of}
use Rattle.gim_tables.proofs.removal.last_unused.Given as goal

abbrev pub invariant-loop-block : goal.invariant-loop-block
invariant-loop-block l =
    last_unused_of l.function l.found (flat_map assigned_in (drop l.block-index l.function.blocks))
    ≡ last_unused_of l.function None (flat_map assigned_in l.function.blocks)
