-- What the loop over expressions keeps.
use Rattle.std.proofs.Common.{◌≡◌, map, take}
use Rattle.cond_subset.specs.Leaves.{type_of}
use Rattle.cond_subset.proofs.making.types_of.Given as goal

abbrev pub invariant-loop-arg : goal.invariant-loop-arg
invariant-loop-arg l = l.types.items ≡ map type_of (take l.arg-index l.args)
