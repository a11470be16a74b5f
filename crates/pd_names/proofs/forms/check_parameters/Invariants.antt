-- What the loop of `check_parameters` keeps.
use Rattle.std.proofs.Common.{◌≡◌, [], take, drop}
use Rattle.pd_names.specs.Forms.{parameters_fault}
use Rattle.pd_names.proofs.forms.check_parameters.Given as goal

abbrev pub invariant-loop-place : goal.invariant-loop-place
invariant-loop-place l =
    parameters_fault l.source l.sight [] l.parameters ≡ parameters_fault l.source l.sight (take l.place l.parameters) (drop l.place l.parameters)
