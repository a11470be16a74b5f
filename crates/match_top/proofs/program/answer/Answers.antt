use Rattle.match_top.proofs.GivenLemmas.{no_memory}
use Rattle.match_top.proofs.program.answer.Goals as goal

pub returns-in-Ok-clause-answered : goal.returns-in-Ok-clause-answered
returns-in-Ok-clause-answered g c = rw (← c.in-Ok.ensures) c.answer.ensures.answered

pub returns-in-Err-clause-answered : goal.returns-in-Err-clause-answered
returns-in-Err-clause-answered g c = no_memory _ _ _
