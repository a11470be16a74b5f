use Rattle.std.proofs.Common.{◌≡◌, map, take}
use Rattle.pd_substitution.specs.Chosen.{name_with}
use Rattle.pred_inline.proofs.opened.names_with.Given as goal

abbrev pub invariant-loop-name : goal.invariant-loop-name
invariant-loop-name l = l.made ≡ map (name_with l.by) (take l.name-index l.names)
