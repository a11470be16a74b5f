use Rattle.std.proofs.Common.{◌≡◌, [], reverse, take, drop}
use Rattle.pm_places.specs.FirstFaults.{first_fault}
use Rattle.gim_limits.specs.Limits.{blocks_among, versions_of, large_faults}
use Rattle.gim_limits.specs.Seen.{IsSeen}
use Rattle.gim_limits.proofs.limits.check_occurrences.Given as goal

abbrev pub invariant-loop-occurrence : goal.invariant-loop-occurrence
invariant-loop-occurrence l = record {
  seen : IsSeen (versions_of l.source (reverse (take l.occurrence-index l.occurrences)))
      (blocks_among (reverse (take l.occurrence-index l.occurrences))) l.seen;
  so_far : first_fault (large_faults l.source (reverse (take l.occurrence-index l.occurrences))
      (drop l.occurrence-index l.occurrences)) ≡ first_fault (large_faults l.source [] l.occurrences);
}
