-- What the search leaves of the contract of `brace_of`.
use Rattle.cond_subset.specs.Trees.{expr_of}
use Rattle.cond_subset.specs.Syntax.{SpellsBrace}
use Rattle.cond_subset.specs.WholeReaders.{brace_at}
use Rattle.cond_subset.proofs.BracesExact.{GoesOnBrace, brace_reads}
use Rattle.cond_subset.proofs.SyntaxAnswers.{found_in, only_in, fault_in}
use Rattle.cond_subset.proofs.part.brace_of.Goals as goal

pub returns-clause-found : goal.returns-clause-found
returns-clause-found c =
    let symbols = c.args.symbols.now in
    found_in SpellsBrace GoesOnBrace expr_of symbols (brace_at symbols) (brace_reads.exact symbols) c.whole_brace.result c.whole_brace.ensures c.in_source.result c.in_source.ensures

pub returns-clause-only : goal.returns-clause-only
returns-clause-only c =
    let symbols = c.args.symbols.now in
    only_in SpellsBrace GoesOnBrace expr_of symbols (brace_at symbols) (brace_reads.exact symbols) c.whole_brace.result c.whole_brace.ensures c.in_source.result c.in_source.ensures

pub returns-clause-fault : goal.returns-clause-fault
returns-clause-fault c =
    let symbols = c.args.symbols.now in
    fault_in SpellsBrace GoesOnBrace expr_of symbols (brace_at symbols) (brace_reads.exact symbols) c.whole_brace.result c.whole_brace.ensures c.in_source.result c.in_source.ensures
