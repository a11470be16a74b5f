use Rattle.std.proofs.Common.{◌≡◌, length}
use Rattle.std.specs.Prelude.{find}
use Rattle.cfg_tidy.specs.Search.{is_unfound}
use Rattle.cfg_tidy.proofs.reaching.unfound.Given as goal

abbrev pub invariant-loop-rest : goal.invariant-loop-rest
invariant-loop-rest l = find (is_unfound l.reach.found) l.rest ≡ find (is_unfound l.reach.found) l.blocks

abbrev pub decreases-loop-rest : goal.decreases-loop-rest
decreases-loop-rest l = length l.rest
