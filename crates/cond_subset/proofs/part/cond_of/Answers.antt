-- What the search leaves of the contract of `cond_of`.
use Rattle.cond_subset.specs.GoesOn.{GoesOn}
use Rattle.cond_subset.specs.Trees.{expr_of}
use Rattle.cond_subset.specs.Grammar.{Spells}
use Rattle.cond_subset.specs.DeclarationReaders.{expression_at}
use Rattle.cond_subset.proofs.DeclarationsExact.{expression_reads}
use Rattle.cond_subset.proofs.SyntaxAnswers.{found_in, only_in, fault_in}
use Rattle.cond_subset.proofs.part.cond_of.Goals as goal

pub returns-clause-found : goal.returns-clause-found
returns-clause-found c =
    let symbols = c.args.symbols.now in
    found_in Spells (GoesOn 10) expr_of symbols (expression_at symbols) (expression_reads.exact symbols) c.whole_expression.result c.whole_expression.ensures c.in_source.result c.in_source.ensures

pub returns-clause-only : goal.returns-clause-only
returns-clause-only c =
    let symbols = c.args.symbols.now in
    only_in Spells (GoesOn 10) expr_of symbols (expression_at symbols) (expression_reads.exact symbols) c.whole_expression.result c.whole_expression.ensures c.in_source.result c.in_source.ensures

pub returns-clause-fault : goal.returns-clause-fault
returns-clause-fault c =
    let symbols = c.args.symbols.now in
    fault_in Spells (GoesOn 10) expr_of symbols (expression_at symbols) (expression_reads.exact symbols) c.whole_expression.result c.whole_expression.ensures c.in_source.result c.in_source.ensures
