-- What is answered is the outcome, and it alone.
use Rattle.pm_ops.specs.declared.fault.PatternKind.TheVariants.{CSyntax}
use Rattle.grammar.specs.Whole.{whole_of}
use Rattle.cond_subset.specs.Trees.{expr_of}
use Rattle.cond_subset.specs.Grammar.{Spells}
use Rattle.cond_subset.specs.Syntax.{symbols_of}
use Rattle.cond_subset.specs.DeclarationReaders.{expression_at}
use Rattle.cond_subset.specs.Outcomes.{cond_meaning}
use Rattle.cond_subset.proofs.OneOutcome.{answered, only_outcome}
use Rattle.cond_subset.proofs.PartReadings.{cond_reading}
use Rattle.cond_subset.proofs.parse.parse_cond.Goals as goal

pub returns-clause-outcome : goal.returns-clause-outcome
returns-clause-outcome c =
    let source = c.args.source.now in
    let symbols = symbols_of source c.args.tokens.now in
    answered Spells (cond_meaning source c.args.scope.now) symbols expr_of c.cond_syntax.result c.cond_syntax.ensures.found c.cond_syntax.ensures.fault c.judge_cond.result c.judge_cond.ensures

pub returns-clause-only : goal.returns-clause-only
returns-clause-only c =
    let source = c.args.source.now in
    let symbols = symbols_of source c.args.tokens.now in
    only_outcome Spells (cond_meaning source c.args.scope.now) symbols (whole_of CSyntax (expression_at symbols)) (cond_reading symbols) c.judge_cond.result
    (answered Spells (cond_meaning source c.args.scope.now) symbols expr_of c.cond_syntax.result c.cond_syntax.ensures.found c.cond_syntax.ensures.fault c.judge_cond.result c.judge_cond.ensures)
