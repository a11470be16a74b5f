-- What the loop of `freedom` keeps.
use Rattle.std.proofs.Common.{◌≡◌, map, take}
use Rattle.pd_forms.specs.Trees.{pattern_of}
use Rattle.pd_pattern_names.specs.Uses.{is_free_in}
use Rattle.pd_names.proofs.forms.freedom.Given as goal

abbrev pub invariant-loop-at : goal.invariant-loop-at
invariant-loop-at l = l.free ≡ map (λ at. is_free_in l.source l.known l.own at (pattern_of l.pattern)) (take l.at-index l.parameters)
