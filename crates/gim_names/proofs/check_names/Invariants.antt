use Rattle.std.proofs.Common.{drop}
use Rattle.gim_names.proofs.Judging.{AreJudged}
use Rattle.gim_names.proofs.check_names.Given as goal

abbrev pub invariant-loop-function : goal.invariant-loop-function
invariant-loop-function l = AreJudged l.source l.functions (drop l.function-index l.functions) l.known
