use Rattle.std.proofs.Common.{◌≡◌, map, take}
use Rattle.pattern_uses.specs.Uses.{put_at}
use Rattle.pattern_uses.proofs.taking.+put_at.Given as goal

abbrev pub invariant-put_among-loop-pattern : goal.invariant-put_among-loop-pattern
invariant-put_among-loop-pattern l = l.made ≡ map (put_at l.label l.inner) (take l.pattern-index l.patterns)
