use Rattle.std.proofs.Common.{◌≡◌, take}
use Rattle.pm_term.proofs.term.+copy.Given as goal

abbrev pub invariant-copies-loop-term : goal.invariant-copies-loop-term
invariant-copies-loop-term l = l.made ≡ take l.term-index l.terms
