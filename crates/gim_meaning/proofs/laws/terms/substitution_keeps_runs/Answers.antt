use Rattle.gim_meaning.proofs.UnfoldedTerms.{refining_support_keeps_runs}
use Rattle.gim_meaning.proofs.UnfoldedTerms.{refining_earlier_keeps_runs}
use Rattle.gim_meaning.proofs.UnfoldedTerms.{refining_operand_keeps_runs}
use Rattle.gim_meaning.proofs.laws.terms.substitution_keeps_runs.Goals as goal

pub returns-clause-of_support : goal.returns-clause-of_support
returns-clause-of_support c = refining_support_keeps_runs

pub returns-clause-comes_before : goal.returns-clause-comes_before
returns-clause-comes_before c = refining_earlier_keeps_runs

pub returns-clause-readable : goal.returns-clause-readable
returns-clause-readable c = refining_operand_keeps_runs
