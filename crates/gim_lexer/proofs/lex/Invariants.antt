use Rattle.std.proofs.Common.{length, ◌-◌}
use Rattle.lexing.proofs.Cutting.{Reached}
use Rattle.gim_lexer.specs.Cuts.{gimple}
use Rattle.gim_lexer.proofs.lex.Given as goal

-- up to here the source is cut into the tokens so far
abbrev pub invariant-loop-at : goal.invariant-loop-at
invariant-loop-at l = Reached gimple l.source l.tokens.items l.at

abbrev pub decreases-loop-at : goal.decreases-loop-at
decreases-loop-at l = length l.source - l.at
