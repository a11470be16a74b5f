use Rattle.std.proofs.Common.{length, ◌-◌}
use Rattle.pd_lexer.specs.Levels.{levels_of}
use Rattle.pd_lexer.proofs.Scanning.{Reached}
use Rattle.pd_lexer.proofs.lex.Given as goal

-- up to here the source is cut into pieces without a fault of their own, and these are their tokens
abbrev pub invariant-loop-at : goal.invariant-loop-at
invariant-loop-at l = Reached l.source (levels_of l.nest) l.outermost l.at l.tokens.items

abbrev pub decreases-loop-at : goal.decreases-loop-at
decreases-loop-at l = length l.source - l.at
