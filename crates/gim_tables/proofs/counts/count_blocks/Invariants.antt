use Rattle.std.proofs.Common.{◌≡◌, ℕ, ◌+◌, min, drop}
use Rattle.std.specs.List.{count_by, flat_map}
use Rattle.gim_ast.specs.Functions.{is_name, operands_of_block}
use Rattle.gim_tables.specs.Told.{told, most}
use Rattle.gim_tables.proofs.counts.count_blocks.Given as goal

-- what was counted so far, and the rest, are all
abbrev pub invariant-loop-block : goal.invariant-loop-block
invariant-loop-block l = (q : ℕ) →
    min (told l.table q + count_by (is_name q) (flat_map operands_of_block (drop l.block-index l.blocks))) most
    ≡ min (told l.fn.table q + count_by (is_name q) (flat_map operands_of_block l.blocks)) most
