use Rattle.std.proofs.Common.{◌≡◌, ◌++◌, map, drop}
use Rattle.pattern_uses.specs.Uses.{all_taken, taken}
use Rattle.pattern_uses.proofs.taking.+taken.Given as goal

abbrev pub invariant-all_taken-loop-pattern : goal.invariant-all_taken-loop-pattern
invariant-all_taken-loop-pattern l =
    (l.made.patterns ++ (all_taken (map taken (drop l.pattern-index l.patterns)) l.names).patterns ≡ (all_taken (map taken l.patterns) l.fn.names).patterns)
    × (l.made.uses ++ (all_taken (map taken (drop l.pattern-index l.patterns)) l.names).uses ≡ (all_taken (map taken l.patterns) l.fn.names).uses)
