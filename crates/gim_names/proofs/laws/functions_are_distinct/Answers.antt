use Rattle.gim_names.proofs.NamesKept.{functions_differ}
use Rattle.gim_names.proofs.laws.functions_are_distinct.Goals as goal

pub returns : goal.returns
returns c = functions_differ
