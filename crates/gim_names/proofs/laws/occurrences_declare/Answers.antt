use Rattle.gim_names.proofs.DeclaredIdentifiers.{declares}
use Rattle.gim_names.proofs.laws.occurrences_declare.Goals as goal

pub returns : goal.returns
returns c = declares
