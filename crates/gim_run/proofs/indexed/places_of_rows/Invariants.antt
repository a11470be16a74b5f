use Rattle.std.proofs.Common.{◌≡◌, ℕ, ◌+◌, ◌≤◌, drop, length}
use Rattle.gim_run.specs.Places.{place_in}
use Rattle.gim_run.specs.Slots.{place_of}
use Rattle.gim_run.proofs.indexed.places_of_rows.Given as goal

-- the rows from here on are told
abbrev pub invariant-loop-left : goal.invariant-loop-left
invariant-loop-left l =
    (l.left ≤ length l.rows)
    × ((x : ℕ) → place_in l.places (length l.rows) x ≡ l.left + place_of (drop l.left l.rows) x)

abbrev pub decreases-loop-left : goal.decreases-loop-left
decreases-loop-left l = l.left
