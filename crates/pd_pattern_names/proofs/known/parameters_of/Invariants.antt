-- What the loop of `parameters_of` keeps.
use Rattle.std.proofs.Common.{◌≡◌, drop}
use Rattle.pd_pattern_names.specs.Known.{parameters_of}
use Rattle.pd_pattern_names.proofs.known.parameters_of.Given as goal

abbrev pub invariant-loop-one : goal.invariant-loop-one
invariant-loop-one l = parameters_of l.source l.cases l.name ≡ parameters_of l.source (drop l.one-index l.cases) l.name
