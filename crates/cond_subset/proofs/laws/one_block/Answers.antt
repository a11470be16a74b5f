-- By the exact reader of such a part.
use Rattle.cond_subset.specs.Declarations.{SpellsBlock}
use Rattle.cond_subset.specs.DeclarationReaders.{block_at}
use Rattle.grammar.specs.Whole.{whole_of}
use Rattle.pm_ops.specs.declared.fault.PatternKind.TheVariants.{CSyntax}
use Rattle.cond_subset.specs.Outcomes.{block_meaning}
use Rattle.cond_subset.proofs.OneOutcome.{one_outcome}
use Rattle.cond_subset.proofs.PartReadings.{block_reading}
use Rattle.cond_subset.proofs.laws.one_block.Goals as goal

pub returns : goal.returns
returns c = λ source scope symbols. one_outcome SpellsBlock (block_meaning source scope) symbols (whole_of CSyntax (block_at symbols)) (block_reading symbols)
