-- What the search leaves of the contract of `read_result`.
use Rattle.pd_forms.proofs.ResultsExact.{result_reads}
use Rattle.pd_forms.proofs.result.read_result.Goals as goal

pub returns-clause-exact : goal.returns-clause-exact
returns-clause-exact c = result_reads.exact c.args.symbols.now
