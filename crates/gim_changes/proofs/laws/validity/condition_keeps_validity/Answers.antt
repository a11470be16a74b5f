use Rattle.std.proofs.Common.{[]}
use Rattle.std.proofs.lemmas.Bool.{and_from}
use Rattle.gim_changes.proofs.GoodOperands.{good_readable}
use Rattle.gim_changes.proofs.ValidCondition.{valid_with_condition}
use Rattle.gim_changes.proofs.laws.validity.condition_keeps_validity.Goals as goal

pub returns : goal.returns
returns c = λ f n code a b valid comparison same holds_a holds_b read_a read_b.
    valid_with_condition n code a b f valid (good_readable f n [] a holds_a read_a) (good_readable f n [] b holds_b read_b) (and_from _ _ comparison same)
