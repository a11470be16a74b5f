use Rattle.std.proofs.Common.{◌≡◌, ℕ, drop, nat_eq}
use Rattle.std.specs.HashMap.{get}
use Rattle.std.specs.List.{flat_map}
use Rattle.std.specs.Option.{option_copied}
use Rattle.gim_terms.specs.Lookups.{stmts_in}
use Rattle.gim_tables.specs.Told.{right_among}
use Rattle.gim_tables.proofs.places.rights_in.Given as goal

-- the table has the right sides in the blocks that were looked at, from the end
abbrev pub invariant-loop-at : goal.invariant-loop-at
invariant-loop-at l = (q : ℕ) → option_copied (get nat_eq l.table q) ≡ right_among q (flat_map stmts_in (drop l.at l.blocks))
