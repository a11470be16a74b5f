-- What the search leaves of the contract of `read_block`.
use Rattle.cond_subset.proofs.DeclarationsExact.{block_reads}
use Rattle.cond_subset.proofs.part.read_block.Goals as goal

pub returns-clause-exact : goal.returns-clause-exact
returns-clause-exact c = block_reads.exact c.args.symbols.now
