use Rattle.std.proofs.Common.{◌≡◌, ℕ, drop, nat_eq}
use Rattle.std.specs.HashMap.{get}
use Rattle.gim_tables.specs.Told.{type_among}
use Rattle.gim_tables.proofs.places.types_in.Given as goal

-- the table has the types in the rows that were looked at, from the end
abbrev pub invariant-loop-at : goal.invariant-loop-at
invariant-loop-at l = (q : ℕ) → get nat_eq l.table q ≡ type_among q (drop l.at l.rows)
