use Rattle.std.proofs.Common.{◌≡◌, false, map, take}
use Rattle.pd_substitution.specs.Substituted.{pattern_with}
use Rattle.pd_substitution.proofs.patterns.+pattern_with.Given as goal

abbrev pub invariant-all_anew-loop-pattern : goal.invariant-all_anew-loop-pattern
invariant-all_anew-loop-pattern l =
    (l.made ≡ map (pattern_with l.by) (take l.pattern-index l.patterns))
    × (l.changed ≡ false → l.made ≡ take l.pattern-index l.patterns)
