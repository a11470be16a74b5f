use Rattle.gim_changes.proofs.InsertedName.{readable_behind}
use Rattle.gim_changes.proofs.laws.insertion.what_is_inserted_is_readable.Goals as goal

pub returns : goal.returns
returns c = λ f place before stmt decl valid may. readable_behind place before stmt decl f valid may
