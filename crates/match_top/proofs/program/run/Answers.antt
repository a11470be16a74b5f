-- What the number says, by the answer that was written.
use Rattle.match_top.proofs.ProgramLemmas.{served_held}
use Rattle.match_top.proofs.SaysLemmas.{says, refused_words}
use Rattle.match_top.proofs.StatusLemmas.{some_status, failed_only, silent_out, silent_report}
use Rattle.match_top.proofs.program.run.Goals as goal

pub returns-clause-answer : goal.returns-clause-answer
returns-clause-answer g c = record { answer = c.answer-answer.result; answered = c.answer-answer.ensures.answered; writes = c.write.ensures.writes }

pub returns-clause-held : goal.returns-clause-held
returns-clause-held g c = served_held _ _ _ c.answer-answer.result _ _ _ c.answer-answer.ensures.answered c.write.ensures.writes

pub returns-clause-says : goal.returns-clause-says
returns-clause-says g c = λ status is. says _ _ _ c.answer-answer.result _ _ _ status c.answer-answer.ensures.answered c.write.ensures.writes is

pub returns-clause-numbers : goal.returns-clause-numbers
returns-clause-numbers g c = some_status c.answer-answer.result _ _ _ c.write.ensures.writes

pub returns-clause-refused : goal.returns-clause-refused
returns-clause-refused g c = refused_words _ _ _ c.answer-answer.result _ _ _ c.answer-answer.ensures.answered c.write.ensures.writes

pub returns-clause-failed : goal.returns-clause-failed
returns-clause-failed g c = failed_only c.answer-answer.result _ _ _ c.write.ensures.writes

pub returns-clause-silent : goal.returns-clause-silent
returns-clause-silent g c = λ silent. c.write.ensures.no_out (silent_out c.answer-answer.result _ _ _ c.write.ensures.writes silent)

pub returns-clause-memory : goal.returns-clause-memory
returns-clause-memory g c = λ is. c.write.ensures.no_report (silent_report c.answer-answer.result _ _ _ c.write.ensures.writes is)

pub returns-clause-inputs_later : goal.returns-clause-inputs_later
returns-clause-inputs_later g c = c.answer-answer.ensures.answered.came.later
