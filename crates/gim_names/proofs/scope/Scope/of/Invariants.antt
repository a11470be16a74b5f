use Rattle.std.proofs.Common.{◌≤◌, length, drop}
use Rattle.gim_names.specs.Tables.{Describes}
use Rattle.gim_names.proofs.scope.Scope.of.Given as goal

abbrev pub invariant-loop-at : goal.invariant-loop-at
invariant-loop-at l = (l.at ≤ length l.occurrences) × Describes l.source (drop l.at l.occurrences) l.scope

abbrev pub decreases-loop-at : goal.decreases-loop-at
decreases-loop-at l = l.at
