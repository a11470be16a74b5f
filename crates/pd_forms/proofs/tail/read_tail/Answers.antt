-- What the search leaves of the contract of `read_tail`.
use Rattle.pd_forms.proofs.TailsExact.{tail_reads}
use Rattle.pd_forms.proofs.tail.read_tail.Goals as goal

pub returns-clause-exact : goal.returns-clause-exact
returns-clause-exact c = tail_reads.exact c.args.symbols.now
