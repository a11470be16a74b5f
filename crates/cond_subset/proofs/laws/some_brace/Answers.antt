-- By the exact reader of such a part.
use Rattle.cond_subset.specs.Syntax.{SpellsBrace}
use Rattle.cond_subset.specs.WholeReaders.{brace_at}
use Rattle.grammar.specs.Whole.{whole_of}
use Rattle.pm_ops.specs.declared.fault.PatternKind.TheVariants.{CSyntax}
use Rattle.cond_subset.specs.Outcomes.{brace_meaning}
use Rattle.cond_subset.proofs.OneOutcome.{some_outcome}
use Rattle.cond_subset.proofs.PartReadings.{brace_reading}
use Rattle.cond_subset.proofs.laws.some_brace.Goals as goal

pub returns : goal.returns
returns c = λ source scope symbols. some_outcome SpellsBrace (brace_meaning source scope) symbols (whole_of CSyntax (brace_at symbols)) (brace_reading symbols)
