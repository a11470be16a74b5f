use Rattle.std.proofs.Common.{◌≡◌, ℕ, take}
use Rattle.std.specs.BTreeMap as tree
use Rattle.std.specs.List.{flat_map}
use Rattle.std.specs.Ordering.{nat_cmp}
use Rattle.gim_making.specs.Names.{first_of, rows_of_place}
use Rattle.gim_making.proofs.rows.gather.Given as goal

abbrev pub invariant-loop-place : goal.invariant-loop-place
invariant-loop-place l = (v : ℕ) → tree.get nat_cmp l.rows v ≡ first_of v (flat_map (rows_of_place l.scope) (take l.place-index l.places))
