use Rattle.gim_changes.proofs.ValidInsertion.{valid_with_stmt}
use Rattle.gim_changes.proofs.laws.insertion.insertion_keeps_validity.Goals as goal

pub returns : goal.returns
returns c = λ f place before stmt decl valid may. valid_with_stmt place before stmt decl f valid may
