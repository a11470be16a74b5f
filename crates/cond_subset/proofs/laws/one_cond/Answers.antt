-- By the exact reader of such a part.
use Rattle.cond_subset.specs.Grammar.{Spells}
use Rattle.cond_subset.specs.DeclarationReaders.{expression_at}
use Rattle.grammar.specs.Whole.{whole_of}
use Rattle.pm_ops.specs.declared.fault.PatternKind.TheVariants.{CSyntax}
use Rattle.cond_subset.specs.Outcomes.{cond_meaning}
use Rattle.cond_subset.proofs.OneOutcome.{one_outcome}
use Rattle.cond_subset.proofs.PartReadings.{cond_reading}
use Rattle.cond_subset.proofs.laws.one_cond.Goals as goal

pub returns : goal.returns
returns c = λ source scope symbols. one_outcome Spells (cond_meaning source scope) symbols (whole_of CSyntax (expression_at symbols)) (cond_reading symbols)
