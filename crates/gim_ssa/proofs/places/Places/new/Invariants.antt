use Rattle.std.proofs.Common.{◌≡◌, ℕ, drop, nat_eq}
use Rattle.std.specs.List.{position_from}
use Rattle.std.specs.HashMap.{get}
use Rattle.std.specs.Prelude.{◌==◌}
use Rattle.gim_ssa.proofs.places.Places.new.Given as goal

-- the table has the places of what was looked at, from the end
abbrev pub invariant-loop-at : goal.invariant-loop-at
invariant-loop-at l = (q : ℕ) → get nat_eq l.table q ≡ position_from (λ n. n == q) l.at (drop l.at l.numbers)
