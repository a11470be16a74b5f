use Rattle.gim_changes.proofs.InsertedName.{new_comes_before}
use Rattle.gim_changes.proofs.laws.insertion.what_is_inserted_comes_before_the_next.Goals as goal

pub returns : goal.returns
returns c = λ f place before stmt decl x left valid may next is operands. new_comes_before place before stmt decl f valid may x left next is operands
