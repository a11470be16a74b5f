-- What is answered is the outcome, and it alone.
use Rattle.std.proofs.Common.{map}
use Rattle.pm_ops.specs.declared.fault.PatternKind.TheVariants.{CSyntax}
use Rattle.grammar.specs.Whole.{whole_of}
use Rattle.cond_subset.specs.Declarations.{decl_of, SpellsBlock}
use Rattle.cond_subset.specs.Syntax.{symbols_of}
use Rattle.cond_subset.specs.DeclarationReaders.{block_at}
use Rattle.cond_subset.specs.Outcomes.{block_meaning}
use Rattle.cond_subset.proofs.OneOutcome.{answered, only_outcome}
use Rattle.cond_subset.proofs.PartReadings.{block_reading}
use Rattle.cond_subset.proofs.parse.parse_block.Goals as goal

pub returns-clause-outcome : goal.returns-clause-outcome
returns-clause-outcome c =
    let source = c.args.source.now in
    let symbols = symbols_of source c.args.tokens.now in
    answered SpellsBlock (block_meaning source c.args.scope.now) symbols (map decl_of) c.block_syntax.result c.block_syntax.ensures.found c.block_syntax.ensures.fault c.judge_block.result c.judge_block.ensures

pub returns-clause-only : goal.returns-clause-only
returns-clause-only c =
    let source = c.args.source.now in
    let symbols = symbols_of source c.args.tokens.now in
    only_outcome SpellsBlock (block_meaning source c.args.scope.now) symbols (whole_of CSyntax (block_at symbols)) (block_reading symbols) c.judge_block.result
    (answered SpellsBlock (block_meaning source c.args.scope.now) symbols (map decl_of) c.block_syntax.result c.block_syntax.ensures.found c.block_syntax.ensures.fault c.judge_block.result c.judge_block.ensures)
