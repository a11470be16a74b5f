use Rattle.std.proofs.Common.{length}
use Rattle.match_top.proofs.FunctionLemmas.{Judged}
use Rattle.match_top.proofs.functions.all_valid.Given as goal

abbrev pub invariant-loop-rest : goal.invariant-loop-rest
invariant-loop-rest l = Judged l.functions l.rest

abbrev pub decreases-loop-rest : goal.decreases-loop-rest
decreases-loop-rest l = length l.rest
