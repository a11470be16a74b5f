use Rattle.std.proofs.Common.{length, ◌-◌}
use Rattle.pd_lexer.specs.Levels.{levels_of}
use Rattle.pd_lexer.proofs.Scanning.{Sought}
use Rattle.pd_lexer.proofs.is_ended.Given as goal

-- what ends the levels that were open at first ends those that are open now
abbrev pub invariant-loop-at : goal.invariant-loop-at
invariant-loop-at l = Sought l.source (levels_of l.fn.nest) l.fn.at (levels_of l.nest) l.at

abbrev pub decreases-loop-at : goal.decreases-loop-at
decreases-loop-at l = length l.source - l.at
