use Rattle.gim_changes.proofs.InsertedName.{comes_still}
use Rattle.gim_changes.proofs.laws.insertion.insertion_keeps_what_comes_before.Goals as goal

pub returns : goal.returns
returns c = λ f place before stmt decl x y valid may is comes. comes_still place before stmt decl f valid may y x is comes
