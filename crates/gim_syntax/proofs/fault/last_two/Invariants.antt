-- What the loop of `last_two` keeps.
use Rattle.std.proofs.Common.{◌≡◌, length}
use Rattle.gim_syntax.specs.SyntaxFaults.{last_two_after, last_two}
use Rattle.gim_syntax.proofs.fault.last_two.Given as goal

abbrev pub invariant-loop-rest : goal.invariant-loop-rest
invariant-loop-rest l = last_two_after l.before l.last l.rest ≡ last_two l.front

abbrev pub decreases-loop-rest : goal.decreases-loop-rest
decreases-loop-rest l = length l.rest
