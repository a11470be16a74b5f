use Rattle.std.proofs.Common.{drop}
use Rattle.gim_names.proofs.Judging.{IsJudged}
use Rattle.gim_names.proofs.check_occurrences.Given as goal

abbrev pub invariant-loop-occurrence : goal.invariant-loop-occurrence
invariant-loop-occurrence l = IsJudged l.source l.occurrences (drop l.occurrence-index l.occurrences) l.past
