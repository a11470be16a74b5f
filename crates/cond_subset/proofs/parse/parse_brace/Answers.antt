-- What is answered is the outcome, and it alone.
use Rattle.pm_ops.specs.declared.fault.PatternKind.TheVariants.{CSyntax}
use Rattle.grammar.specs.Whole.{whole_of}
use Rattle.cond_subset.specs.Trees.{expr_of}
use Rattle.cond_subset.specs.Syntax.{symbols_of, SpellsBrace}
use Rattle.cond_subset.specs.WholeReaders.{brace_at}
use Rattle.cond_subset.specs.Outcomes.{brace_meaning}
use Rattle.cond_subset.proofs.OneOutcome.{answered, only_outcome}
use Rattle.cond_subset.proofs.PartReadings.{brace_reading}
use Rattle.cond_subset.proofs.parse.parse_brace.Goals as goal

pub returns-clause-outcome : goal.returns-clause-outcome
returns-clause-outcome c =
    let source = c.args.source.now in
    let symbols = symbols_of source c.args.tokens.now in
    answered SpellsBrace (brace_meaning source c.args.scope.now) symbols expr_of c.brace_syntax.result c.brace_syntax.ensures.found c.brace_syntax.ensures.fault c.judge_brace.result c.judge_brace.ensures

pub returns-clause-only : goal.returns-clause-only
returns-clause-only c =
    let source = c.args.source.now in
    let symbols = symbols_of source c.args.tokens.now in
    only_outcome SpellsBrace (brace_meaning source c.args.scope.now) symbols (whole_of CSyntax (brace_at symbols)) (brace_reading symbols) c.judge_brace.result
    (answered SpellsBrace (brace_meaning source c.args.scope.now) symbols expr_of c.brace_syntax.result c.brace_syntax.ensures.found c.brace_syntax.ensures.fault c.judge_brace.result c.judge_brace.ensures)
