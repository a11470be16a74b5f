use Rattle.std.proofs.Common.{◌≡◌, map, drop}
use Rattle.pm_places.specs.FirstFaults.{first_fault}
use Rattle.commute_expand.specs.Marks.{first_wrong_mark}
use Rattle.commute_expand.proofs.marks.+first_wrong_mark.Given as goal

abbrev pub invariant-wrong_mark_among-loop-pattern : goal.invariant-wrong_mark_among-loop-pattern
invariant-wrong_mark_among-loop-pattern l = first_fault (map first_wrong_mark (drop l.pattern-index l.patterns)) ≡ first_fault (map first_wrong_mark l.patterns)
