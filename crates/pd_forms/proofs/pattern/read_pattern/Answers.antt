-- What the search leaves of the contract of `read_pattern`.
use Rattle.pd_forms.proofs.PatternsExact.{pattern_reads}
use Rattle.pd_forms.proofs.pattern.read_pattern.Goals as goal

pub returns-clause-exact : goal.returns-clause-exact
returns-clause-exact c = pattern_reads.exact c.args.symbols.now
