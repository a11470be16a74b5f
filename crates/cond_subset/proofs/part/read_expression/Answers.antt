-- What the search leaves of the contract of `read_expression`.
use Rattle.cond_subset.proofs.DeclarationsExact.{expression_reads}
use Rattle.cond_subset.proofs.part.read_expression.Goals as goal

pub returns-clause-exact : goal.returns-clause-exact
returns-clause-exact c = expression_reads.exact c.args.symbols.now
