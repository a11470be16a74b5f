-- What the search leaves of the contract of `read_leaf`.
use Rattle.pd_forms.proofs.LeavesExact.{leaf_reads}
use Rattle.pd_forms.proofs.leaf.read_leaf.Goals as goal

pub returns-clause-exact : goal.returns-clause-exact
returns-clause-exact c = leaf_reads.exact c.args.symbols.now
