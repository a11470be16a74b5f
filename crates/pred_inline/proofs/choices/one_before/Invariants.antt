use Rattle.std.proofs.Common.{◌≡◌, ◌∷◌, take}
use Rattle.pred_inline.proofs.choices.one_before.Given as goal

abbrev pub invariant-loop-one : goal.invariant-loop-one
invariant-loop-one l = l.made ≡ l.case ∷ take l.one-index l.rest
