use Rattle.std.proofs.Common.{◌≡◌, ℕ, drop, nat_eq}
use Rattle.std.specs.HashMap.{get}
use Rattle.std.specs.Option.{option_copied, option_or}
use Rattle.gim_tables.specs.Told.{right_among}
use Rattle.gim_tables.proofs.places.add_stmts.Given as goal

-- the statements that were looked at, from the end, count first
abbrev pub invariant-loop-at : goal.invariant-loop-at
invariant-loop-at l = (q : ℕ) →
    option_copied (get nat_eq l.table q)
    ≡ option_or (right_among q (drop l.at l.stmts)) (option_copied (get nat_eq l.fn.table q))
