use Rattle.std.proofs.Common.{◌≡◌, ℕ, ◌+◌, ◌≤◌, drop, length}
use Rattle.gim_run.specs.Places.{place_in}
use Rattle.gim_run.specs.Blocks.{place_of_block}
use Rattle.gim_run.proofs.indexed.places_of_blocks.Given as goal

-- the blocks from here on are told
abbrev pub invariant-loop-left : goal.invariant-loop-left
invariant-loop-left l =
    (l.left ≤ length l.blocks)
    × ((n : ℕ) → place_in l.places (length l.blocks) n ≡ l.left + place_of_block (drop l.left l.blocks) n)

abbrev pub decreases-loop-left : goal.decreases-loop-left
decreases-loop-left l = l.left
