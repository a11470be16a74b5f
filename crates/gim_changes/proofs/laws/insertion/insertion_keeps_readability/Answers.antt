use Rattle.gim_changes.proofs.ValidInsertion.{readable_still}
use Rattle.gim_changes.proofs.laws.insertion.insertion_keeps_readability.Goals as goal

pub returns : goal.returns
returns c = λ f place before stmt decl y n left valid may readable. readable_still place before stmt decl f valid may y n left readable
